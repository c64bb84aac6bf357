-- The lines of a page read from the last to the first.
-- Assumes nothing.
use Prim.Native.Nat.{ℕ, ◌+◌, ◌*◌, ◌/◌, ◌-◌, ◌≤◌, ◌<◌}
use mathlib.Core.Path.{◌≡◌, refl, sym, ap, ◌∙◌}
use mathlib.Core.Bool.{Bool, true, false, cond}
use mathlib.Core.List.{List, [], ◌∷◌, ◌++◌}
use native.Mathlib.Omega.{arith}
use borrow.Author.Tests.{eqb-true, eqb-false}
use lib.Dec.{eqb}
use lib.ListN.{length, drop, get_or, set, replicate, length-append, length-drop, length-set, get_or-replicate}
use lib.Seq.{drop-length, get_or-set_same, get_or-set_other}
use Rattle.graph.specs.KeyLists.{count}
use Rattle.graph.specs.Nodes.{Node}
use Rattle.graph.specs.Valid.{Each}
use Rattle.graph.proofs.Answers.{eqb_same}
use Rattle.graph.proofs.KeyLaws.{key_high}
use Rattle.text.specs.Text.{texts}
use Rattle.print.specs.Printed.{node_text}
use Rattle.print.specs.Inner.Lengths.{LineLength}
use Rattle.pagelines.specs.Page.{page_line, PageNode, keys_of, PageOf}
use Rattle.pagelines.specs.Inner.Columns.{Stands, Missing}
use Rattle.pagelines.proofs.LinesOnce.{lines_once}
use Rattle.page.specs.Inner.Measuring.{WholeLines}
use Rattle.page.proofs.PagesRead.{whole_length, after_lines, nodes_after_law, once_after}

-- the lines from i on are read
pub record Scanned (page : List ℕ) (seen : List Bool) (sum i : ℕ) : Type 0 where
  pub ns : List Node
  pub below : 1 ≤ i
  pub few : i + length ns ≤ 65
  pub whole : 38 * (i + length ns) ≡ length page
  pub nodes : Each PageNode ns
  pub distinct : (k : ℕ) → count k (keys_of ns) ≤ 1
  pub text : drop (38 * i) page ≡ texts page_line ns
  pub size : length seen ≡ 65
  pub marks : (k : ℕ) → k < 65 → cond (get_or seen k false) 1 0 ≡ count k (keys_of ns)
  pub total : sum ≡ length (texts node_text ns)
  pub small : sum ≤ 128 * length ns

pub scanned_none : (page : List ℕ) → WholeLines page → Scanned page (replicate 65 false) 0 (length page / 38)
scanned_none page w =
    let n : length page / 38 ≡ w.count + 1 = omega (arith, w.whole) in
    record {
      ns = [];
      below = omega arith;
      few = omega (arith, w.few);
      whole = omega (arith, w.whole);
      nodes = tt;
      distinct = λ k. omega arith;
      text = ap (λ (j : ℕ). drop j page) (let e : 38 * (length page / 38) ≡ length page = omega (arith, w.whole) in e) ∙ drop-length page;
      size = refl;
      marks = λ k h. ap (λ (b : Bool). cond b 1 0) (get_or-replicate 65 k false false h);
      total = refl;
      small = omega arith;
    }

-- line j is read next
module _ {page : List ℕ} {seen : List Bool} {sum i : ℕ} (s : Scanned page seen sum i) (j : ℕ) (more : 1 ≤ j) (next : i ≡ j + 1) where
  place : 38 * j ≡ 38 * (j - 1 + 1)
  place = omega arith

  pub scan_missing : Missing PageNode page_line page (38 * j) → (ms : List Node) → PageOf page ms → ⊥
  scan_missing never ms p = go (drop (j - 1) ms) refl (after_lines p (j - 1)) (nodes_after_law p (j - 1))
    where
      go : (rest : List Node) → drop (j - 1) ms ≡ rest → drop (38 * (j - 1 + 1)) page ≡ texts page_line rest → Each PageNode rest → ⊥
      go [] q e v = omega (arith, ap length q, length-drop (j - 1) ms, whole_length p, s.whole)
      go (m ∷ rest) q e v = never m v.0 (texts page_line rest) (ap (λ (k : ℕ). drop k page) place ∙ e)

  module _ (n : Node) (st : Stands PageNode page_line page (38 * j) 38 n) where
    joins : drop (38 * j) page ≡ texts page_line (n ∷ s.ns)
    joins =
        let k : 38 * j + 38 ≡ 38 * i = omega arith in
        st.same ∙ ap (λ (r : List ℕ). page_line n ++ r) (ap (λ (k : ℕ). drop k page) k ∙ s.text)

    pub key_inside : n.key < 65
    key_inside = omega (arith, key_high n.key st.fits.key)

    pub scan_repeated : get_or seen n.key false ≡ true → (ms : List Node) → PageOf page ms → ⊥
    scan_repeated again ms p =
        let same : n ∷ s.ns ≡ drop (j - 1) ms = lines_once (n ∷ s.ns) (drop (j - 1) ms) (st.fits, s.nodes) (nodes_after_law p (j - 1)) (sym joins ∙ ap (λ (k : ℕ). drop k page) place ∙ after_lines p (j - 1)) in
        let twice : count n.key (keys_of (n ∷ s.ns)) ≡ 1 + count n.key (keys_of s.ns) = rw (eqb_same n.key) refl in
        let there : 1 ≡ count n.key (keys_of s.ns) = ap (λ (b : Bool). cond b 1 0) (sym again) ∙ s.marks n.key key_inside in
        omega (arith, twice, there, once_after p n.key (j - 1), ap (λ (r : List Node). count n.key (keys_of r)) same)

    pub scan_more : (k : ℕ) → get_or seen n.key false ≡ false → LineLength (node_text n) k → Scanned page (set seen n.key true) (sum + k) j
    scan_more len z l =
        record {
          ns = n ∷ s.ns;
          below = more;
          few = omega (arith, s.few);
          whole = omega (arith, s.whole);
          nodes = (st.fits, s.nodes);
          distinct = λ k. go_once k (eqb k n.key) refl;
          text = joins;
          size = length-set seen n.key true ∙ s.size;
          marks = λ k h. go_mark k h (eqb k n.key) refl;
          total = omega (arith, s.total, l.text, length-append (node_text n) (texts node_text s.ns));
          small = omega (arith, s.small, l.few);
        }
      where
        absent : count n.key (keys_of s.ns) ≡ 0
        absent = sym (s.marks n.key key_inside) ∙ ap (λ (b : Bool). cond b 1 0) z

        go_once : (k : ℕ) (b : Bool) → eqb k n.key ≡ b → cond b 1 0 + count k (keys_of s.ns) ≤ 1
        go_once k true e = omega (arith, absent, ap (λ (j : ℕ). count j (keys_of s.ns)) (eqb-true k n.key e))
        go_once k false e = omega (arith, s.distinct k)

        go_mark : (k : ℕ) → k < 65 → (b : Bool) → eqb k n.key ≡ b → cond (get_or (set seen n.key true) k false) 1 0 ≡ cond b 1 0 + count k (keys_of s.ns)
        go_mark k h true e =
            let q = eqb-true k n.key e in
            ap (λ (b : Bool). cond b 1 0) (ap (λ (j : ℕ). get_or (set seen n.key true) j false) q ∙ get_or-set_same seen n.key true false (omega (arith, s.size, key_inside)))
            ∙ (let none : 1 ≡ 1 + count k (keys_of s.ns) = omega (arith, absent, ap (λ (j : ℕ). count j (keys_of s.ns)) q) in none)
        go_mark k h false e = omega (arith, ap {B = ℕ} (λ (b : Bool). cond b 1 0) (get_or-set_other seen n.key k true false (eqb-false k n.key e)), s.marks k h)
