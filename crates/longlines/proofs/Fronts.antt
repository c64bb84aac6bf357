-- A call's text up to its targets: it ends in an equals sign, has at most 45 bytes, and its targets hold no equals sign.
-- Assumes nothing.
use Prim.Native.Nat.{ℕ, ◌<◌, ◌≤◌}
use mathlib.Core.Path.{◌≡◌, refl, sym, ap, ◌∙◌}
use mathlib.Core.Bool.{true, false≢true}
use mathlib.Core.List.{List, [], ◌∷◌, ◌++◌, append-nil, append_assoc}
use mathlib.Core.Logic.{◌⊎◌, inl, inr}
use native.Mathlib.Omega.{arith}
use lib.ListN.{length, length-append}
use Rattle.graph.specs.Calls.{Call, add}
use Rattle.graph.specs.Targets.{To, named, whole}
use Rattle.graph.specs.Words.{modulus}
use Rattle.text.specs.Text.{ascii, decimal, further, commas}
use Rattle.text.proofs.Decimals.{Figures, decimal_is, len_ten}
use Rattle.keylists.specs.Inner.ListsRead.{Below, last_or}
use Rattle.keylists.proofs.KeyLists.{words_below, below_words}
use Rattle.lines.specs.Forms.{to_text, call_text, call_numbers, IsCall}
use Rattle.lines.specs.Inner.Answers.{call_form}
use Rattle.lines.specs.Inner.LineParts.{call_listed}
use Rattle.lines.specs.declared.call.CallKind.{CallKind}
use Rattle.lines.specs.declared.call.CallKind.TheVariants.{Add, Map, Link, Unlink, Sum, Top, Pick, Near, Unmap}
use Rattle.lines.proofs.Calls.{call_forms, call_unique, parts_of}
use Rattle.lines.proofs.Words.{Parts, Small}
use Rattle.longlines.specs.Inner.LongLines.{EndsInEquals, NoEquals, Far}
use Rattle.longlines.proofs.Cuts.{last_or_append, without_nil, without_cons, no_end, same_cut}

-- ---- the targets' text

digits_before : (l t : List ℕ) → Figures l → NoEquals t → NoEquals (l ++ t)
digits_before [] t d w = w
digits_before (c ∷ cs) t d w = without_cons c (cs ++ t) (λ e. omega (arith, d.1)) (digits_before cs t d.2 w)

number_before_law : (v : ℕ) (t : List ℕ) → NoEquals t → NoEquals (decimal v ++ t)
number_before_law v t = digits_before (decimal v) t (decimal_is v).figures

further_without : (ts : List ℕ) → NoEquals (further ts)
unfolding further
further_without [] = without_nil
further_without (t ∷ ts) = without_cons 44 (decimal t ++ further ts) (λ e. omega arith) (number_before_law t (further ts) (further_without ts))

to_without : (to : To) → NoEquals (to_text to)
unfolding commas ascii
to_without (named []) = without_nil
to_without (named (t ∷ ts)) = number_before_law t (further ts) (further_without ts)
to_without whole = without_cons 97 _ (λ e. omega arith) (without_cons 108 _ (λ e. omega arith) (without_cons 108 _ (λ e. omega arith) without_nil))

all_short : length (to_text whole) ≤ 3
unfolding ascii
all_short = omega arith

-- ---- the front, by kinds

-- every kind but add has targets
has_targets : (k : CallKind) → (call_listed k ≡ true) ⊎ (k ≡ Add)
has_targets Add = inr refl
has_targets Map = inl refl
has_targets Link = inl refl
has_targets Unlink = inl refl
has_targets Sum = inl refl
has_targets Top = inl refl
has_targets Pick = inl refl
has_targets Near = inl refl
has_targets Unmap = inl refl

abbrev pub front_text : CallKind → ℕ → ℕ → List ℕ
front_text k x y = call_text (call_form k x y (named []))

pub front_text_law : (k : CallKind) → call_listed k ≡ true → (x y : ℕ) (to : To) → call_text (call_form k x y to) ≡ front_text k x y ++ to_text to
unfolding ascii commas
front_text_law Add l x y to = absurd (false≢true l)
front_text_law Map l x y to = simp append_assoc
front_text_law Link l x y to = simp append_assoc
front_text_law Unlink l x y to = simp append_assoc
front_text_law Sum l x y to = simp append_assoc
front_text_law Top l x y to = simp append_assoc
front_text_law Pick l x y to = simp append_assoc
front_text_law Near l x y to = simp append_assoc
front_text_law Unmap l x y to = simp append_assoc

front_ends : (k : CallKind) → call_listed k ≡ true → (x y : ℕ) → EndsInEquals (front_text k x y)
unfolding ascii commas
front_ends Add l x y = absurd (false≢true l)
front_ends Map l x y = simp last_or_append
front_ends Link l x y = simp last_or_append
front_ends Unlink l x y = simp last_or_append
front_ends Sum l x y = simp last_or_append
front_ends Top l x y = simp last_or_append
front_ends Pick l x y = simp last_or_append
front_ends Near l x y = simp last_or_append
front_ends Unmap l x y = simp last_or_append

front_short : (k : CallKind) (x y : ℕ) → x < modulus → y < modulus → length (front_text k x y) ≤ 45
unfolding ascii commas
front_short Add x y hx hy = simp length-append (omega (arith, len_ten x hx))
front_short Map x y hx hy = simp length-append (omega (arith, len_ten x hx, len_ten y hy))
front_short Link x y hx hy = simp length-append (omega (arith, len_ten x hx))
front_short Unlink x y hx hy = simp length-append (omega (arith, len_ten x hx))
front_short Sum x y hx hy = simp length-append (omega (arith, len_ten x hx))
front_short Top x y hx hy = simp length-append (omega (arith, len_ten x hx))
front_short Pick x y hx hy = simp length-append (omega (arith, len_ten x hx))
front_short Near x y hx hy = simp length-append (omega (arith, len_ten x hx, len_ten y hy))
front_short Unmap x y hx hy = simp length-append (omega (arith, len_ten x hx, len_ten y hy))

add_ends : (v : ℕ) → EndsInEquals (call_text (add v)) → ⊥
unfolding ascii
add_ends v e = omega (arith, (decimal_is v).some, length-append (decimal v) [], ap length (no_end (decimal v ++ []) (number_before_law v [] without_nil) e))

-- ---- a line that is cut, and a call's text

-- the rest is a list, and the front is the text of a call without targets
pub record Divided (front rest : List ℕ) : Type 0 where
  pub keys : List ℕ
  pub below : Below keys
  pub list : rest ≡ commas keys
  pub call : Call
  pub is : IsCall front call

module _ (front rest : List ℕ) (ends : EndsInEquals front) (far : Far front rest) (long : 64 ≤ length (front ++ rest)) where
  apart : (k : CallKind) (x y z : ℕ) (to : To) → Small (record { kind = k; x = x; y = y; z = z; to = to }) → front ++ rest ≡ call_text (call_form k x y to) → Divided front rest
  apart k x y z to s e = go (has_targets k) to s e
    where
      few : length (front_text k x y) ≤ 45
      few = front_short k x y s.0 s.1

      cut : call_listed k ≡ true → (to : To) → Small (record { kind = k; x = x; y = y; z = z; to = to }) → front ++ rest ≡ front_text k x y ++ to_text to → Divided front rest
      cut l (named ts) s e =
          let q = same_cut front rest (front_text k x y) (commas ts) e ends far (front_ends k l x y) (omega (arith, few)) (to_without (named ts)) in
          record {
            keys = ts;
            below = s.3;
            list = q.1;
            call = call_form k x y (named []);
            is = record {
              short = omega (arith, few, ap length q.0);
              fits = below_words (call_numbers (call_form k x y (named []))) ((call_forms.made (record { kind = k; x = x; y = y; z = z; to = named [] })).fits (s.0, s.1, s.2, tt));
              same = q.0;
            };
          }
      cut l whole s e = absurd (omega (arith, few, ap length e, length-append (front_text k x y) (to_text whole), all_short))

      go : (call_listed k ≡ true) ⊎ (k ≡ Add) → (to : To) → Small (record { kind = k; x = x; y = y; z = z; to = to }) → front ++ rest ≡ call_text (call_form k x y to) → Divided front rest
      go (inl l) to s e = cut l to s (e ∙ front_text_law k l x y to)
      go (inr a) to s e = absurd (omega (arith, ap length (e ∙ ap (λ (j : CallKind). call_text (call_form j x y to)) a), front_short Add x y s.0 s.1))

  pub divided : (f : Call) → IsCall (front ++ rest) f → Divided front rest
  divided f i =
      let p = parts_of f in
      apart p.kind p.x p.y p.z p.to ((call_forms.parts f).small (words_below (call_numbers f) i.fits)) (i.same ∙ ap call_text (sym (call_forms.parts f).back))

-- a call whose text ends in an equals sign has targets, and lists none
pub record Opened (g : Call) : Type 0 where
  pub kind : CallKind
  pub x : ℕ
  pub y : ℕ
  pub z : ℕ
  pub listed : call_listed kind ≡ true
  pub small : (x < modulus) × (y < modulus) × (z < modulus)
  pub is : g ≡ call_form kind x y (named [])

pub opened : (front : List ℕ) → EndsInEquals front → (g : Call) → IsCall front g → Opened g
opened front ends g i = go (has_targets (parts_of g).kind)
  where
    p : Parts CallKind
    p = parts_of g

    back : call_form p.kind p.x p.y p.to ≡ g
    back = (call_forms.parts g).back

    ended : EndsInEquals (call_text g)
    ended = ap (last_or 61) (sym i.same) ∙ ends

    s : Small p
    s = (call_forms.parts g).small (words_below (call_numbers g) i.fits)

    go : (call_listed p.kind ≡ true) ⊎ (p.kind ≡ Add) → Opened g
    go (inl l) =
        let t : call_text g ≡ front_text p.kind p.x p.y ++ to_text p.to = ap call_text (sym back) ∙ front_text_law p.kind l p.x p.y p.to in
        let n : EndsInEquals (to_text p.to) = ap (λ (d : ℕ). last_or d (to_text p.to)) (sym (front_ends p.kind l p.x p.y)) ∙ sym (last_or_append 61 (front_text p.kind p.x p.y) (to_text p.to)) ∙ ap (last_or 61) (sym t) ∙ ended in
        let c : call_text g ≡ front_text p.kind p.x p.y = t ∙ ap (λ (r : List ℕ). front_text p.kind p.x p.y ++ r) (no_end (to_text p.to) (to_without p.to) n) ∙ append-nil (front_text p.kind p.x p.y) in
        record {
          kind = p.kind;
          x = p.x;
          y = p.y;
          z = p.z;
          listed = l;
          small = (s.0, s.1, s.2);
          is = call_unique g (call_form p.kind p.x p.y (named [])) c;
        }
    go (inr a) = absurd (add_ends p.x (ap (λ (f : Call). last_or 61 (call_text f)) (ap (λ (j : CallKind). call_form j p.x p.y p.to) (sym a) ∙ back) ∙ ended))
