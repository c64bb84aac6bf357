-- Which arguments are a command, and which are none.
-- Assumes nothing.
use Prim.Native.Nat.{ℕ, ◌<◌}
use mathlib.Core.Path.{◌≡◌, ap}
use mathlib.Core.Bool.{false≢true}
use mathlib.Core.List.{List, [], ◌∷◌}
use lib.Dec.{eqb}
use lib.ListN.{get_or}
use Rattle.graph.specs.Words.{modulus}
use Rattle.text.specs.Text.{ascii, decimal}
use Rattle.keylists.proofs.KeyLists.{words_below, below_words}
use Rattle.cgtool.specs.Commands.{Arguments, Command, load, page, nodes, IsCommand}

-- two verbs are told apart by their first byte
load_page : ascii "load" ≡ ascii "page" → ⊥
unfolding ascii
load_page e = false≢true (ap (λ (l : List ℕ). eqb (get_or l 0 0) 112) e)

load_nodes : ascii "load" ≡ ascii "nodes" → ⊥
unfolding ascii
load_nodes e = false≢true (ap (λ (l : List ℕ). eqb (get_or l 0 0) 110) e)

-- ---- the verb is `load`

module _ (given : ℕ) (first second : List ℕ) where
  abbrev loading : Arguments
  loading = record { given = given; verb = ascii "load"; first = first; second = second }

  only_load : ((s n : ℕ) → IsCommand loading (load s n) → ⊥) → (c : Command) → IsCommand loading c → ⊥
  only_load never (load s n) i = never s n i
  only_load never page i = load_page i.1
  only_load never nodes i = load_nodes i.1

  pub other_number : (given ≡ 4 → ⊥) → (c : Command) → IsCommand loading c → ⊥
  other_number ne = only_load (λ s n i. ne (ap (λ (b : Arguments). b.given) i.1))

  pub no_seed : ((v : ℕ) → v < modulus → first ≡ decimal v → ⊥) → (c : Command) → IsCommand loading c → ⊥
  no_seed never = only_load (λ s n i. never s (words_below (s ∷ n ∷ []) i.0).0 (ap (λ (b : Arguments). b.first) i.1))

  pub no_count : ((v : ℕ) → v < modulus → second ≡ decimal v → ⊥) → (c : Command) → IsCommand loading c → ⊥
  no_count never = only_load (λ s n i. never n (words_below (s ∷ n ∷ []) i.0).1.0 (ap (λ (b : Arguments). b.second) i.1))

  pub is_load : {s n : ℕ} → given ≡ 4 → s < modulus → n < modulus → first ≡ decimal s → second ≡ decimal n → IsCommand loading (load s n)
  is_load {s} {n} g hs hn es en = (below_words (s ∷ n ∷ []) (hs, (hn, tt)), λ i. record { given = g i; verb = ascii "load"; first = es i; second = en i })

-- ---- the verb is another

module _ (a : Arguments) (other : a.verb ≡ ascii "load" → ⊥) where
  not_load : (s n : ℕ) → IsCommand a (load s n) → ⊥
  not_load s n i = other (ap (λ (b : Arguments). b.verb) i.1)

  pub more_arguments : (a.given ≡ 2 → ⊥) → (c : Command) → IsCommand a c → ⊥
  more_arguments ne (load s n) i = not_load s n i
  more_arguments ne page i = ne i.0
  more_arguments ne nodes i = ne i.0

  pub other_verb : (a.verb ≡ ascii "page" → ⊥) → (a.verb ≡ ascii "nodes" → ⊥) → (c : Command) → IsCommand a c → ⊥
  other_verb p n (load s c) i = not_load s c i
  other_verb p n page i = p i.1
  other_verb p n nodes i = n i.1
