-- The lines determine what is printed of them and the image after them, and so an input the whole output.
-- Assumes nothing.
use mathlib.Core.Path.{◌≡◌, refl, sym, ap, subst, ◌∙◌}
use mathlib.Core.Bool.{Bool, true, false, ◌&&◌, true≢false}
use mathlib.Core.List.{List, [], ◌∷◌, ◌++◌}
use Prim.Native.Nat.{ℕ, zero, suc, ◌≤◌, ◌<◌}
use native.Mathlib.Omega.{arith}
use lib.Dec.{eqb, ltb}
use lib.IntN.{ℤ}
use lib.ListN.{length, take}
use borrow.Author.Tests.{eqb-true, le-leb, ltb-true}
use Rattle.graph.specs.Words.{modulus}
use Rattle.graph.specs.Refusals.{Answer, refused, done}
use Rattle.graph.specs.Sessions.{Session}
use Rattle.graph.specs.Acceptance.{Claimed, claim as claim_of}
use Rattle.graph.specs.Valid.{Valid}
use Rattle.graph.proofs.Validity.{Fine, claim_fine}
use Rattle.text.specs.Text.{ascii, pasted, starts_with}
use Rattle.text.proofs.Pasting.{take_pasted}
use Rattle.lines.specs.Forms.{IsClaim}
use Rattle.print.specs.Printed.{result_text}
use Rattle.listing.specs.Listed.{listing_of}
use Rattle.host.specs.Entries.{Called, ClaimMade, claim_refused, claim_served, Claims, Listed, list_refused, list_served}
use Rattle.host.proofs.Determined.{both, claim_forms, call_once, tally_free}
use Rattle.program.specs.Lines.{length_in, answer_text, Line, as_step, as_claim, as_call}
use Rattle.program.specs.Transcript.{LineRun, none, next, ListingPrinted, Transcript}
use Rattle.program.proofs.Rooms.{result_short, listing_short}

take_text : (out text : List ℕ) → take (length text) (pasted out 0 text) ≡ text
take_text out text = take_pasted out text (length text) (omega arith)

-- ---- what a line leaves and prints

abbrev SameClaim : ℕ → ClaimMade → ClaimMade → Type 0
SameClaim n x y = (x.image ≡ y.image) × (answer_text n x.answer (take (length_in x.answer) x.output) ≡ answer_text n y.answer (take (length_in y.answer) y.output))

word : (line : List ℕ) (l : ℕ) → IsClaim line l → l < modulus
word line l i = go (ltb l modulus) refl i.fits
  where
    go : (b : Bool) → ltb l modulus ≡ b → b && true ≡ true → l < modulus
    go true e h = ltb-true _ _ e
    go false e h = absurd (true≢false (sym h))

module _ (image : List ℕ) (n : ℕ) (out out' : List ℕ) where
  refused_same : (k : ℕ) → SameClaim n (claim_refused image out k) (claim_refused image out' k)
  refused_same zero = (refl, refl)
  refused_same (suc k) = (refl, refl)

  claim_made : 128 ≤ length out → 128 ≤ length out' → (s : Session) (l : ℕ) → l < modulus → (a : Answer Claimed) → Fine l s a → SameClaim n (claim_served image out s a) (claim_served image out' s a)
  claim_made room room' s l w (refused k) h = refused_same k
  claim_made room room' s l w (done c) h =
      let short : length (result_text c.result) ≤ 128 = result_short c.result (omega (arith, h.0)) h.1 in
      rw (le-leb (length (result_text c.result)) (length out) (omega arith), le-leb (length (result_text c.result)) (length out') (omega arith))
      (refl, take_text out (result_text c.result) ∙ sym (take_text out' (result_text c.result)))

claim_same : {image line : List ℕ} (n : ℕ) {out out' : List ℕ} {r r' : ClaimMade} → 128 ≤ length out → 128 ≤ length out' → Claims image line out r → Claims image line out' r' → SameClaim n r r'
claim_same {image} {line} n {out} {out'} room room' =
    both claim_forms (SameClaim n) (refused_same image n out out') (λ s l i j. claim_made image n out out' room room' s l (word line l j) (claim_of l s) (claim_fine l s i.valid))

-- no line begins with both
apart : (line : List ℕ) → starts_with (ascii "step=") line ≡ true → starts_with (ascii "claim=") line ≡ true → ⊥
unfolding starts_with ascii
apart [] a b = true≢false (sym a)
apart (x ∷ xs) a b = go (eqb x 115) refl (eqb x 99) refl
  where
    go : (p : Bool) → eqb x 115 ≡ p → (q : Bool) → eqb x 99 ≡ q → ⊥
    go true e true f = let u : x ≡ 115 = eqb-true x 115 e in let v : x ≡ 99 = eqb-true x 99 f in omega arith
    go false e q f = true≢false (sym (rw e at a))
    go true e false f = true≢false (sym (rw f at b))

module _ {image line : List ℕ} {n : ℕ} where
  -- A LINE DETERMINES WHAT IS PRINTED OF IT, AND THE IMAGE AFTER IT
  pub line_same : {a t a' t' : List ℕ} → Line image line n a t → Line image line n a' t' → (a ≡ a') × (t ≡ t')
  line_same (as_step b t r h e q) (as_step b' t' r' h' e' q') = let m = tally_free h h' in (sym e ∙ m.image ∙ e', sym q ∙ ap (λ (z : ℤ). answer_text n z []) m.answer ∙ q')
  line_same (as_step b t r h e q) (as_claim b' o l r' h' e' q') = absurd (apart line b b')
  line_same (as_step b t r h e q) (as_call b' c' r' h' e' q') = absurd (true≢false (sym b ∙ b'))
  line_same (as_claim b o l r h e q) (as_step b' t' r' h' e' q') = absurd (apart line b' b)
  line_same (as_claim b o l r h e q) (as_claim b' o' l' r' h' e' q') = let m = claim_same n l l' h h' in (sym e ∙ m.0 ∙ e', sym q ∙ m.1 ∙ q')
  line_same (as_claim b o l r h e q) (as_call b' c' r' h' e' q') = absurd (true≢false (sym b ∙ c'))
  line_same (as_call b c r h e q) (as_step b' t' r' h' e' q') = absurd (true≢false (sym b' ∙ b))
  line_same (as_call b c r h e q) (as_claim b' o' l' r' h' e' q') = absurd (true≢false (sym b' ∙ c))
  line_same (as_call b c r h e q) (as_call b' c' r' h' e' q') =
      let m = call_once h h' in
      (sym e ∙ ap (λ (x : Called). x.image) m ∙ e', sym q ∙ ap (λ (x : Called). answer_text n x.answer []) m ∙ q')

-- AND SO DO LINES, ONE AFTER THE OTHER
pub run_same : {image image' : List ℕ} {n : ℕ} {ls : List (List ℕ)} {a a' : List ℕ} {m m' : ℕ} {t t' : List ℕ} → image ≡ image' → LineRun image n ls a m t → LineRun image' n ls a' m' t' → (a ≡ a') × (t ≡ t')
run_same e none none = (e, refl)
run_same e (next {between = b} {l = line} {n = n} {text = text} x r) (next {between = c} y s) =
    let l = line_same (subst (λ (z : List ℕ). Line z line n b text) e x) y in
    let k = run_same {image = b} {image' = c} l.0 r s in
    (k.0, λ i. l.1 i ++ k.1 i)

-- ---- the listing at the end

abbrev SameListing : Listed → Listed → Type 0
SameListing x y = take (length_in x.answer) x.output ≡ take (length_in y.answer) y.output

refused_listing : (out out' : List ℕ) (k : ℕ) → SameListing (list_refused out k) (list_refused out' k)
refused_listing out out' zero = refl
refused_listing out out' (suc k) = refl

served_listing : (out out' : List ℕ) → 16512 ≤ length out → 16512 ≤ length out' → (s : Session) → Valid s → SameListing (list_served out s) (list_served out' s)
served_listing out out' room room' s v =
    let short = listing_short s v in
    rw (le-leb (length (listing_of s)) (length out) (omega arith), le-leb (length (listing_of s)) (length out') (omega arith))
    (take_text out (listing_of s) ∙ sym (take_text out' (listing_of s)))

listing_same : {image t t' : List ℕ} → ListingPrinted image t → ListingPrinted image t' → t ≡ t'
listing_same x y =
    sym x.bytes
    ∙ both (λ (f g : Unit {0}) (i j : Unit {0}). refl) SameListing (refused_listing x.out y.out) (λ s f i j. served_listing x.out y.out x.room y.room s i.valid) x.lists y.lists
    ∙ y.bytes

-- AN INPUT DETERMINES THE WHOLE OUTPUT
pub transcript_same : {input output output' : List ℕ} → Transcript input output → Transcript input output' → output ≡ output'
transcript_same x y =
    let r = run_same refl x.runs y.runs in
    sym x.whole ∙ (λ i. r.1 i ++ listing_same x.ends (subst (λ (a : List ℕ). ListingPrinted a y.listing) (sym r.0) y.ends) i) ∙ y.whole
