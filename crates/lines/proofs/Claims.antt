-- Claim lines: the form is the label, the one field of the line.
-- Assumes nothing.
use Prim.Native.Nat.{ℕ, ◌<◌}
use mathlib.Core.Path.{◌≡◌, refl}
use mathlib.Core.Bool.{false}
use mathlib.Core.List.{List, [], ◌∷◌, ◌++◌}
use native.Mathlib.Omega.{arith}
use lib.ListN.{length}
use Rattle.graph.specs.Refusals.{Answer, refused, done}
use Rattle.graph.specs.Targets.{named}
use Rattle.text.specs.Text.{ascii, decimal}
use Rattle.text.proofs.Splits.{cancel, same_number}
use Rattle.lines.specs.Forms.{claim_text, claim_numbers, IsClaim}
use Rattle.lines.specs.Inner.Answers.{ReadAs, form, other}
use Rattle.lines.specs.Inner.LineParts.{FieldOf, ValuesOf}
use Rattle.lines.proofs.Chains.{if_not, if_then, end_not, end_is}
use Rattle.std.proofs.Common.{Some, None, ◌≤◌}
use Rattle.graph.specs.Words.{modulus}
use Rattle.keylists.proofs.KeyLists.{words_below, below_words}

-- a claim line's text determines the label
pub claim_unique : (l m : ℕ) → claim_text l ≡ claim_text m → l ≡ m
claim_unique l m e = (same_number 32 (omega arith) l m [] [] (cancel (ascii "claim=") (decimal l ++ []) (decimal m ++ []) e) tt tt).0

module _ (line : List ℕ) (r : Answer ℕ) (short : length line < 256) where
  claim_field : ReadAs (ValuesOf (ascii "claim=" ∷ []) false line) (λ v. done v.x) (refused 10) r → ReadAs (IsClaim line) done (refused 10) r
  claim_field (form v i e) = form v.x (record { short = short; fits = below_words (claim_numbers v.x) (i.small.0, tt); same = i.same }) e
  claim_field (other never e) =
      other (λ l i. never (record { x = l; y = 0; z = 0; to = named [] })
      (record { small = ((words_below (claim_numbers l) i.fits).0, omega arith, omega arith, tt); spare = (refl, refl, refl); tailed = refl; same = i.same }))
      e

  pub claim_not : FieldOf line 0 (ascii "claim=") None → r ≡ refused 10 → ReadAs (IsClaim line) done (refused 10) r
  claim_not f e = claim_field (if_not line 0 [] tt (ascii "claim=" ∷ []) tt f e)

  module _ (label n : ℕ) (f : FieldOf line 0 (ascii "claim=") (Some (label, n))) (h : label < modulus) where
    pub claim_more : n < length line → r ≡ refused 10 → ReadAs (IsClaim line) done (refused 10) r
    claim_more more e = claim_field (if_then line 0 [] tt (ascii "claim=" ∷ []) tt label n f h (omega arith) (end_not line n more e))

    pub claim_is : length line ≤ n → r ≡ done label → ReadAs (IsClaim line) done (refused 10) r
    claim_is end e = claim_field (if_then line 0 [] tt (ascii "claim=" ∷ []) tt label n f h (omega arith) (end_is line n end e))
