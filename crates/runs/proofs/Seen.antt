-- What answers say of the session that an image holds: which lines are forms, what is pending, what is allowed, what a claim writes.
-- Assumes nothing.
use mathlib.Core.Path.{◌≡◌, refl, sym, ap, subst, ◌∙◌}
use Prim.Native.Nat.{ℕ, zero, suc, ◌≤◌, ◌<◌}
use native.Mathlib.Omega.{arith}
use mathlib.Core.Bool.{Bool, true, false, not, cond, true≢false, ◌&&◌}
use mathlib.Core.List.{List, [], ◌∷◌, ◌++◌}
use mathlib.Core.Option.{some}
use Prim.Native.String.{String}
use lib.Dec.{eqb, leb}
use lib.IntN.{pos}
use lib.ListN.{length, length-append}
use borrow.Author.Tests.{lt-ltb, le-leb, eqb-true, eq-eqb, ne_eqb}
use Rattle.graph.specs.Refusals.{Answer, refused, done, map_done, and_then, unless}
use Rattle.graph.specs.KeyLists.{are_keys, contains}
use Rattle.graph.specs.Words.{modulus, are_words}
use Rattle.graph.specs.Nodes.{Result}
use Rattle.graph.specs.Sessions.{Station, Session, pending}
use Rattle.graph.specs.Steps.{Step, admit, realise, move, finish, join, split, swap, fuse, Change, behind, at, step}
use Rattle.graph.specs.Acceptance.{Claimed, take_result, claim}
use Rattle.graph.specs.Counts.{quoted_steps, result_of_label}
use Rattle.graph.specs.EventRuns.{step_all}
use Rattle.graph.specs.Valid.{KeysFall, Valid}
use Rattle.graph.proofs.Answers.{is_done, is_done_map, and_both}
use Rattle.graph.proofs.Effects.{costs}
use Rattle.graph.proofs.Validity.{step_valid, Fine, claim_fine}
use Rattle.graph.proofs.Drains.{done_holds, work_cons}
use Rattle.text.specs.Text.{ascii, decimal, pasted}
use Rattle.text.proofs.Decimals.{len_ten}
use Rattle.lines.specs.Forms.{work, field, step_text, step_numbers, step_keys, claim_text, IsStep, IsClaim, step_form_tests}
use Rattle.lines.proofs.Claims.{claim_unique}
use Rattle.print.specs.Printed.{result_text}
use Rattle.panel.specs.declared.tally.Tally.{Tally}
use Rattle.panel.specs.Returned.{answer_number, refusal_in}
use Rattle.panel.specs.Tally.{counted}
use Rattle.valid.specs.Values.{encode}
use Rattle.host.specs.Entries.{served, ClaimMade, claim_refused, claim_written, claim_served, step_served, Steps}
use Rattle.runs.specs.Runs.{is_served, Pending, Wrote, WouldWrite}
use Rattle.runs.specs.Demand.{StepLines, ended, stepped}
use Rattle.runs.proofs.Entered.{own, entered}
use Rattle.graph.proofs.Found.{none_some, Where, first_of, later, where_found}

refusal_of : (n : ℕ) → refusal_in (answer_number (refused n)) ≡ n
refusal_of zero = refl
refusal_of (suc n) = refl

abbrev session_in : Session → Answer Session → Session
session_in s (refused n) = s
session_in s (done u) = u

-- LINES THAT ARE FORMS
word : (n : ℕ) → n < modulus → are_words (n ∷ []) ≡ true
word n h = and_both (lt-ltb n modulus h) refl

field_short : (name : String) (n : ℕ) → length (ascii name) ≤ 20 → n < modulus → length (field name n []) < 256
field_short name n h k = omega (arith, length-append (ascii name) (decimal n ++ []), length-append (decimal n) [], len_ten n k)

pub claim_form : (l : ℕ) → l < modulus → IsClaim (claim_text l) l
unfolding ascii
claim_form l h = record { short = field_short "claim=" l (omega arith) h; fits = word l h; same = refl }

-- a key of a step that was done is a station's
key_found : (k : ℕ) (f : Station → List Station → Answer Change) (ss : List Station) → KeysFall ss → is_done (at k f ss) ≡ true → (1 ≤ k) × (k ≤ length ss)
key_found k f [] h e = absurd (true≢false (sym e))
key_found k f (s ∷ ss) h e = go (eqb s.node.key k) refl (λ q. key_found k f ss h.1 q) e
  where
    go : (b : Bool) → eqb s.node.key k ≡ b → (is_done (at k f ss) ≡ true → (1 ≤ k) × (k ≤ length ss)) → is_done (cond b (f s ss) (map_done (behind s) (at k f ss))) ≡ true → (1 ≤ k) × (k ≤ suc (length ss))
    go true q g e =
        let same : s.node.key ≡ k = eqb-true s.node.key k q in
        (omega (arith, h.0), omega (arith, h.0))
    go false q g e =
        let r = g (sym (is_done_map (behind s) (at k f ss)) ∙ e) in
        (r.0, omega (arith, r.1))

record GoodKey (k : ℕ) : Type 0 where
  keys : are_keys (k ∷ []) ≡ true
  small : k < modulus

good_key : (s : Session) → Valid s → (k : ℕ) (f : Station → List Station → Answer Change) (g : Change → Session) {u : Session} → map_done g (at k f s.stations) ≡ done u → GoodKey k
good_key s v k f g e =
    let r = key_found k f s.stations v.falling (sym (is_done_map g (at k f s.stations)) ∙ ap is_done e) in
    record { keys = and_both (and_both (le-leb 1 k r.0) (le-leb k 64 (omega (arith, r.1, v.room)))) refl; small = omega (arith, r.1, v.room) }

-- an admit, realise, move or finish that the session takes is taken by its line
record GoodLine (w : Step) : Type 0 where
  keys : are_keys (step_keys (work w)) ≡ true
  form : IsStep (step_text (work w)) (work w)

key_line : (w : Step) (name : String) (k : ℕ) → length (ascii name) ≤ 20 → step_text (work w) ≡ field name k [] → step_numbers (work w) ≡ k ∷ [] → step_keys (work w) ≡ k ∷ [] → GoodKey k → GoodLine w
key_line w name k l text numbers keys g =
    record {
      keys = ap are_keys keys ∙ g.keys;
      form = record { short = subst (λ (t : List ℕ). length t < 256) (sym text) (field_short name k l g.small); fits = ap are_words numbers ∙ word k g.small; same = refl };
    }

good_line : (s : Session) → Valid s → (w : Step) → costs w ≡ 1 → {u : Session} → step w s ≡ done u → GoodLine w
unfolding ascii
good_line s v admit c e = record { keys = refl; form = record { short = omega arith; fits = refl; same = refl } }
good_line s v (realise k) c e = key_line (realise k) "step=realise at=" k (omega arith) refl refl refl (good_key s v k _ _ e)
good_line s v (move k) c e = key_line (move k) "step=move at=" k (omega arith) refl refl refl (good_key s v k _ _ e)
good_line s v (finish k) c e = key_line (finish k) "step=finish at=" k (omega arith) refl refl refl (good_key s v k _ _ e)
good_line s v (join k i) c e = absurd (omega arith)
good_line s v (split k i j) c e = absurd (omega arith)
good_line s v (swap k i) c e = absurd (omega arith)
good_line s v (fuse k i) c e = absurd (omega arith)

pub line_taken : (s : Session) → Valid s → (w : Step) → costs w ≡ 1 → (u : Session) → step w s ≡ done u → (t : Tally)
    → Steps (encode s) (step_text (work w)) t (record { answer = pos 0; image = encode u; tally = counted t (w ∷ []) })
line_taken s v w c u e t =
    let g = good_line s v w c e in
    let formed : unless (step_form_tests (work w)) s ≡ done s = ap (λ (b : Bool). cond (not b) (refused 11) (done s)) g.keys in
    served s (own s v) (work w) g.form (sym (ap (λ (x : Answer Session). step_served (encode s) t (w ∷ []) (and_then x (step w))) formed ∙ ap (step_served (encode s) t (w ∷ [])) e))

-- steps of these kinds, one by one
cost_most : (w : Step) → costs w ≤ 1
cost_most admit = omega arith
cost_most (realise k) = omega arith
cost_most (move k) = omega arith
cost_most (finish k) = omega arith
cost_most (join k i) = omega arith
cost_most (split k i j) = omega arith
cost_most (swap k i) = omega arith
cost_most (fuse k i) = omega arith

work_most : (ts : List Step) → quoted_steps ts ≤ length ts
work_most [] = omega arith
work_most (t ∷ ts) = omega (arith, work_cons t ts, cost_most t, work_most ts)

pub all_lines : (ts : List Step) (s u : Session) → Valid s → quoted_steps ts ≡ length ts → step_all ts s ≡ done u → StepLines (encode u) (encode s) ts
all_lines [] s u v n e = ended (ap (λ (x : Answer Session). encode (session_in s x)) e)
all_lines (t ∷ ts) s u v n e = go (step t s) refl e (λ x w q. all_lines ts x u w (omega (arith, n, work_cons t ts, cost_most t, work_most ts)) q)
  where
    cost : costs t ≡ 1
    cost = omega (arith, n, work_cons t ts, cost_most t, work_most ts)

    go : (x : Answer Session) → step t s ≡ x → and_then x (step_all ts) ≡ done u → ((x : Session) → Valid x → step_all ts x ≡ done u → StepLines (encode u) (encode x) ts) → StepLines (encode u) (encode s) (t ∷ ts)
    go (refused m) d e ih = absurd (true≢false (sym (ap is_done e)))
    go (done x) d e ih = stepped (encode x) (λ z. line_taken s v t cost x d z) (ih x (done_holds d (step_valid t s v)).valid e)

-- WHAT IS PENDING
given_true : (s : Session) (l : ℕ) → 1 ≤ l → l ≤ s.last → (leb 1 l && leb l s.last) ≡ true
given_true s l h k = and_both (le-leb 1 l h) (le-leb l s.last k)

claim_given : (s : Session) (l : ℕ) → 1 ≤ l → l ≤ s.last → claim l s ≡ cond (contains l (pending s)) (refused 31) (take_result l s.results)
claim_given s l h k = ap (λ (b : Bool). cond b (cond (contains l (pending s)) (refused 31) (take_result l s.results)) (refused 30)) (given_true s l h k)

module _ (s : Session) (v : Valid s) (l : ℕ) where
  pub pending_seen : 1 ≤ l → l ≤ s.last → contains l (pending s) ≡ true → Pending (encode s) l
  pending_seen h k c out =
      let is : claim l s ≡ refused 31 = claim_given s l h k ∙ ap (λ (b : Bool). cond b (refused 31) (take_result l s.results)) c in
      served s (own s v) l (claim_form l (omega (arith, v.labels))) (sym (ap (claim_served (encode s) out s) is))

  refused_31 : claim l s ≡ refused 31 → contains l (pending s) ≡ true
  refused_31 e = (subst (Fine l s) e (claim_fine l s v)).1 refl

  pub pending_only : Pending (encode s) l → contains l (pending s) ≡ true
  pending_only h =
      entered s v (λ (r : ClaimMade). claim_refused (encode s) [] 31 ≡ r → contains l (pending s) ≡ true) (λ e. let unlike : ◌≡◌ {A = ℕ} 31 10 = answers e in absurd (omega arith))
      (λ m i. form m (sym (claim_unique l m i.same)) (claim m s) refl) (h []) refl
    where
      answers : {n : ℕ} → claim_refused (encode s) [] 31 ≡ claim_refused (encode s) [] n → 31 ≡ n
      answers {n} e = ap (λ (y : ClaimMade). refusal_in y.answer) e ∙ refusal_of n

      form : (m : ℕ) → m ≡ l → (x : Answer Claimed) → claim m s ≡ x → claim_refused (encode s) [] 31 ≡ claim_served (encode s) [] s x → contains l (pending s) ≡ true
      form m q (refused n) d e = refused_31 (sym (ap (λ (j : ℕ). claim j s) q) ∙ d ∙ ap refused (sym (answers e)))
      form m q (done c) d e = room (leb (length (result_text c.result)) 0) e
        where
          room : (b : Bool) → claim_refused (encode s) [] 31 ≡ cond b (claim_written [] s c) (claim_refused (encode s) [] 33) → contains l (pending s) ≡ true
          room true e = absurd (true≢false (sym (ap (λ (y : ClaimMade). is_served y.answer) e)))
          room false e = let unlike : ◌≡◌ {A = ℕ} 31 33 = answers e in absurd (omega arith)

-- WHAT A CLAIM WOULD WRITE
record Found (l : ℕ) (rs : List Result) (q : Result) : Type 0 where
  taken : Claimed
  is : take_result l rs ≡ done taken
  same : taken.result ≡ q

found_taken : (l : ℕ) (rs : List Result) (q : Result) → result_of_label l rs ≡ some q → Found l rs q
found_taken l [] q e = absurd (none_some e)
found_taken l (r ∷ rs) q e = go (where_found l q r rs e) (found_taken l rs q)
  where
    go : Where l q r rs → (result_of_label l rs ≡ some q → Found l rs q) → Found l (r ∷ rs) q
    go (first_of d s) g = record { taken = record { result = r; others = rs }; is = rw (eq-eqb r.label l d) refl; same = s }
    go (later n s) g =
        let f = g s in
        record { taken = record { result = f.taken.result; others = r ∷ f.taken.others }; is = rw (ne_eqb r.label l n, f.is) refl; same = f.same }

pub would_write : (s : Session) → Valid s → (l : ℕ) → 1 ≤ l → l ≤ s.last → contains l (pending s) ≡ false → (q : Result) → result_of_label l s.results ≡ some q → (out : List ℕ) → length (result_text q) ≤ length out → WouldWrite (encode s) out l q
would_write s v l h k c q e out room =
    let f = found_taken l s.results q e in
    let is : claim l s ≡ done f.taken = claim_given s l h k ∙ ap (λ (b : Bool). cond b (refused 31) (take_result l s.results)) c ∙ f.is in
    record {
      gives = claim_served (encode s) out s (claim l s);
      claims = served s (own s v) l (claim_form l (omega (arith, v.labels))) refl;
      wrote = subst (λ (x : Answer Claimed). Wrote out q (claim_served (encode s) out s x)) (sym is)
          (written f.taken f.same (leb (length (result_text f.taken.result)) (length out)) (ap (λ (r : Result). leb (length (result_text r)) (length out)) f.same ∙ le-leb (length (result_text q)) (length out) room));
    }
  where
    written : (c : Claimed) → c.result ≡ q → (b : Bool) → b ≡ true
        → Wrote out q (cond b (claim_written out s c) (claim_refused (encode s) out 33))
    written c e true t = record { answer = ap (λ (r : Result). pos (length (result_text r))) e; output = ap (λ (r : Result). pasted out 0 (result_text r)) e }
    written c e false t = absurd (true≢false (sym t))
