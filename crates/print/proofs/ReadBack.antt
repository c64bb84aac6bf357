-- Result lines and node lines read back: two with the same line are the same.
-- Assumes nothing.
use Prim.Native.Nat.{ℕ}
use mathlib.Core.Path.{◌≡◌, refl, sym, ◌∙◌}
use mathlib.Core.List.{List, ◌∷◌, ◌++◌, append_assoc}
use native.Mathlib.Omega.{arith}
use Rattle.graph.specs.Nodes.{Node, Result}
use Rattle.text.specs.Text.{ascii, decimal, commas}
use Rattle.text.proofs.CommaLists.{commas_inj, commas_clean}
use Rattle.text.proofs.Splits.{cancel, part_is, same_number}
use Rattle.print.specs.Printed.{line_of, newline, result_text, node_text}

-- a list of keys ends at the newline
keys_inj : (ks ls : List ℕ) → commas ks ++ newline ≡ commas ls ++ newline → ks ≡ ls
keys_inj ks ls e =
    commas_inj ks ls
    (sym (part_is 10 (commas ks ++ newline) (commas ks) newline refl (commas_clean 10 (omega arith) ks) refl)
    ∙ part_is 10 (commas ks ++ newline) (commas ls) newline e (commas_clean 10 (omega arith) ls) refl)

-- the line, read from its front
right : (a : List ℕ) (x : ℕ) (b : List ℕ) (y : ℕ) (c keys : List ℕ) → line_of a x b y c keys ≡ a ++ (decimal x ++ (b ++ (decimal y ++ (c ++ (commas keys ++ newline)))))
right a x b y c keys = simp append_assoc

pub line_inj : (a b c : List ℕ) (x x' y y' : ℕ) (ks ls : List ℕ) → line_of a x (32 ∷ b) y (32 ∷ c) ks ≡ line_of a x' (32 ∷ b) y' (32 ∷ c) ls → (x ≡ x') × (y ≡ y') × (ks ≡ ls)
line_inj a b c x x' y y' ks ls e =
    let t = sym (right a x (32 ∷ b) y (32 ∷ c) ks) ∙ e ∙ right a x' (32 ∷ b) y' (32 ∷ c) ls in
    let p = same_number 32 (omega arith) x x' _ _ (cancel a _ _ t) refl refl in
    let q = same_number 32 (omega arith) y y' _ _ (cancel (32 ∷ b) _ _ p.1) refl refl in
    (p.0, q.0, keys_inj ks ls (cancel (32 ∷ c) _ _ q.1))

pub result_inj : (r s : Result) → result_text r ≡ result_text s → r ≡ s
unfolding ascii
result_inj r s e =
    let p = line_inj (ascii "label=") (ascii "value=") (ascii "left=") r.label s.label r.value s.value r.left s.left e in
    λ i. record { label = p.0 i; value = p.1 i; left = p.2 i }

pub node_inj : (m n : Node) → node_text m ≡ node_text n → m ≡ n
unfolding ascii
node_inj m n e =
    let p = line_inj (ascii "key=") (ascii "value=") (ascii "links=") m.key n.key m.value n.value m.links n.links e in
    λ i. record { key = p.0 i; value = p.1 i; links = p.2 i }
