-- Queues: which are in order, their units by index, and the labels and adds that wait.
-- Assumes nothing.
use Rattle.std.specs.Prelude.{ℕ, zero, suc, ◌+◌, Bool, true, false, cond, not, ◌&&◌, ◌||◌, List, [], ◌∷◌, ◌++◌, eqb, leb, take, drop}
use Rattle.graph.specs.OneAtATime.{Labelled, add_of, op_of, is_op}
use Rattle.graph.specs.Sessions.{labels_of_results}
use Rattle.flat.specs.Flat.{Tagged, Flat}
use Rattle.flat.specs.Inner.Nested.{at_place}

-- WHICH QUEUES are in order, where there are n nodes: each element is at a node's station, and no add, or in the top stream
abbrev pub placed : ℕ → Tagged → Bool
placed n x = eqb x.place 65 || (is_op x.call && (leb 1 x.place && leb x.place n))

-- stations don't fall, and a station's first operation opens a unit, as each call in the top stream does; the operation before
-- stands at prev (0 at the start)
abbrev pub follows : ℕ → Tagged → Bool
follows prev x = leb prev x.place && (x.opens || (eqb x.place prev && not (eqb x.place 65)))

abbrev pub ordered : ℕ → ℕ → List Tagged → Bool
ordered n prev [] = true
ordered n prev (x ∷ xs) = (placed n x && follows prev x) && ordered n x.place xs

-- LISTS AND UNITS BY INDEX, for the steps
module _ {A : Type 0} where
  -- the list without its element at p
  abbrev pub remove_at : ℕ → List A → List A
  remove_at p xs = take p xs ++ drop (suc p) xs

  -- the index of the first element that p holds of, or the length
  abbrev pub first_index : (A → Bool) → List A → ℕ
  first_index p [] = zero
  first_index p (x ∷ xs) = cond (p x) zero (suc (first_index p xs))

  -- whether there is a first element, and p holds of it
  abbrev pub first_is : (A → Bool) → List A → Bool
  first_is p [] = false
  first_is p (x ∷ xs) = p x

-- the operation does not go on with a unit of station k
abbrev pub breaks : ℕ → Tagged → Bool
breaks k x = not (eqb x.place k) || x.opens

-- does an operation of station k stand at p?
abbrev pub is_at : ℕ → ℕ → List Tagged → Bool
is_at k p q = first_is (at_place k) (drop p q)

-- where the unit that starts at p ends
abbrev pub end_of : ℕ → ℕ → List Tagged → ℕ
end_of k p q = suc p + first_index (breaks k) (drop (suc p) q)

-- LABELS AND ADDS that wait in a queue
abbrev pub labels_in : Labelled → List ℕ
labels_in (add_of l v) = l ∷ []
labels_in (op_of o) = o.labels

abbrev pub queued : List Tagged → List ℕ
queued [] = []
queued (x ∷ xs) = labels_in x.call ++ queued xs

abbrev pub add_in : Labelled → ℕ
add_in (add_of l v) = 1
add_in (op_of o) = 0

abbrev pub adds_queued : List Tagged → ℕ
adds_queued [] = 0
adds_queued (x ∷ xs) = add_in x.call + adds_queued xs

-- the live labels
abbrev pub live_in : Flat → List ℕ
live_in f = queued f.queue ++ labels_of_results f.results
