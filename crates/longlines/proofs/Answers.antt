-- The answer to a call with targets, by that to the call with none; and what a long line is read as.
-- Assumes nothing.
use Prim.Native.Nat.{ℕ, ◌<◌, ◌≤◌}
use mathlib.Core.Path.{◌≡◌, refl, sym, ap, ◌∙◌}
use mathlib.Core.Bool.{Bool, true, false, cond, not, false≢true, ◌&&◌}
use mathlib.Core.List.{List, [], ◌++◌}
use native.Mathlib.Omega.{arith}
use lib.Dec.{leb}
use lib.ListN.{length}
use Rattle.graph.specs.Affine.{is_odd}
use Rattle.graph.specs.Calls.{Call, operands_of, listed_of, lacks_inverse}
use Rattle.graph.specs.KeyLists.{is_key, are_keys, rising}
use Rattle.graph.specs.Packed.{packed_targets}
use Rattle.graph.specs.Targets.{named, these}
use Rattle.graph.specs.Words.{are_words}
use Rattle.text.specs.Text.{commas}
use Rattle.keylists.specs.Inner.ListsRead.{Below}
use Rattle.keylists.proofs.KeyLists.{below_words}
use Rattle.lines.specs.Forms.{call_text, call_numbers, IsCall}
use Rattle.graph.specs.Refusals.{Answer, refused, done}
use Rattle.graph.specs.Packed.{packed}
use Rattle.graph.specs.declared.keys.Keys.{Keys}
use Rattle.keylists.specs.Inner.ListsRead.{keys_named}
use Rattle.lines.specs.Inner.Answers.{ReadAs, form, other, CallRead, call_answered, call_read, call_answer, call_form}
use Rattle.lines.specs.Inner.LineParts.{call_listed}
use Rattle.lines.specs.declared.call.CallKind.{CallKind}
use Rattle.lines.specs.declared.call.CallKind.TheVariants.{Add, Map, Link, Unlink, Sum, Top, Pick, Near, Unmap}
use Rattle.lines.specs.declared.call.Call.{Call as Asked}
use Rattle.lines.proofs.Calls.{call_forms}
use Rattle.longlines.specs.Inner.LongLines.{CutRead, by_targets, retargeted}
use Rattle.longlines.specs.declared.longline.LongLine.{LongLine}
use Rattle.longlines.proofs.Fronts.{front_text_law, Divided, divided, Opened, opened}

-- ---- the answer by the targets

-- what the answer to a call with targets depends on besides them: is its key one, and is it an unmap of an even a?
record Answered (c : List ℕ → Call) : Type 0 where
  key : Bool
  even : Bool
  listed : (ts : List ℕ) → listed_of (c ts) ≡ ts
  keys : (ts : List ℕ) → are_keys (operands_of (c ts) ++ ts) ≡ key && are_keys ts
  lacks : (ts : List ℕ) → lacks_inverse (c ts) ≡ even
  read : (ts : List ℕ) → call_read (c ts) ≡ record { kind = (call_read (c [])).kind; x = (call_read (c [])).x; y = (call_read (c [])).y; to = packed_targets (these ts) }

answered : (k : CallKind) → call_listed k ≡ true → (x y : ℕ) → Answered (λ ts. call_form k x y (named ts))
answered Add l x y = absurd (false≢true l)
answered Map l x y = record { key = true; even = false; listed = λ ts. refl; keys = λ ts. refl; lacks = λ ts. refl; read = λ ts. refl }
answered Link l x y = record { key = is_key x; even = false; listed = λ ts. refl; keys = λ ts. refl; lacks = λ ts. refl; read = λ ts. refl }
answered Unlink l x y = record { key = is_key x; even = false; listed = λ ts. refl; keys = λ ts. refl; lacks = λ ts. refl; read = λ ts. refl }
answered Sum l x y = record { key = true; even = false; listed = λ ts. refl; keys = λ ts. refl; lacks = λ ts. refl; read = λ ts. refl }
answered Top l x y = record { key = true; even = false; listed = λ ts. refl; keys = λ ts. refl; lacks = λ ts. refl; read = λ ts. refl }
answered Pick l x y = record { key = true; even = false; listed = λ ts. refl; keys = λ ts. refl; lacks = λ ts. refl; read = λ ts. refl }
answered Near l x y = record { key = is_key x; even = false; listed = λ ts. refl; keys = λ ts. refl; lacks = λ ts. refl; read = λ ts. refl }
answered Unmap l x y = record { key = true; even = not (is_odd x); listed = λ ts. refl; keys = λ ts. refl; lacks = λ ts. refl; read = λ ts. refl }

module _ (c : List ℕ → Call) (p : Answered c) where
  abbrev answer_to : List ℕ → (key even : Bool) → Answer Asked
  answer_to ts key even =
      cond key (by_targets ts (cond even (refused 40) (done (record { kind = (call_read (c [])).kind; x = (call_read (c [])).x; y = (call_read (c [])).y; to = packed_targets (these ts) })))) (refused 11)

  by_tests : (ts : List ℕ) → are_words (call_numbers (c ts)) ≡ true → (key even a b : Bool) → p.key ≡ key → p.even ≡ even → are_keys ts ≡ a → leb (length ts) 8 && rising ts ≡ b
      → call_answer (c ts) ≡ answer_to ts key even
  by_tests ts w false even a b k e ea eb = rw (w, p.listed ts, p.keys ts, k)
  by_tests ts w true even false b k e ea eb = rw (w, p.listed ts, p.keys ts, k, ea)
  by_tests ts w true even true false k e ea eb = rw (w, p.listed ts, p.keys ts, k, ea, eb)
  by_tests ts w true true true true k e ea eb = rw (w, p.listed ts, p.keys ts, k, ea, eb, p.lacks ts, e)
  by_tests ts w true false true true k e ea eb = rw (w, p.listed ts, p.keys ts, k, ea, eb, p.lacks ts, e, p.read ts)

  retarget : (ts : List ℕ) → are_words (call_numbers (c [])) ≡ true → are_words (call_numbers (c ts)) ≡ true → retargeted (call_answer (c [])) ts ≡ call_answer (c ts)
  retarget ts w w' =
      ap (λ (r : Answer Asked). retargeted r ts) (by_tests [] w p.key p.even true true refl refl refl refl)
      ∙ go p.key p.even
      ∙ sym (by_tests ts w' p.key p.even (are_keys ts) (leb (length ts) 8 && rising ts) refl refl refl refl)
    where
      go : (key even : Bool) → retargeted (answer_to [] key even) ts ≡ answer_to ts key even
      go false even = refl
      go true true = refl
      go true false = refl

-- ---- what refuses the targets, or does not

module _ (ts : List ℕ) where
  by_keys : (a b : Bool) (n : ℕ) (r : Answer Asked) → refused n ≡ cond a (cond b (done (packed ts)) (refused 12)) (refused 11) → refused n ≡ cond a (cond b r (refused 12)) (refused 11)
  by_keys true true n r e = absurd (cc)
  by_keys true false n r e = let h : n ≡ 12 = cc in ap refused h
  by_keys false b n r e = let h : n ≡ 11 = cc in ap refused h

  pub targets_refused : (n : ℕ) (r : Answer Asked) → refused n ≡ keys_named ts → refused n ≡ by_targets ts r
  targets_refused = by_keys (are_keys ts) (leb (length ts) 8 && rising ts)

  pub targets_done : (q : Keys) (r : Keys → Answer Asked) → done q ≡ keys_named ts → r q ≡ by_targets ts (r (packed ts))
  targets_done q r = go (are_keys ts) (leb (length ts) 8 && rising ts)
    where
      go : (a b : Bool) → done q ≡ cond a (cond b (done (packed ts)) (refused 12)) (refused 11) → r q ≡ cond a (cond b (r (packed ts)) (refused 12)) (refused 11)
      go true true e = let h : q ≡ packed ts = cc in ap r h
      go true false e = absurd (cc)
      go false b e = absurd (cc)

-- ---- what a long line is read as

abbrev Read : List ℕ → Answer Asked → Type 0
Read line r = ReadAs (IsCall line) call_answer (refused 10) r

-- a line of 256 bytes is the text of no call
pub too_long : (line : List ℕ) {r : Answer Asked} → 256 ≤ length line → r ≡ refused 10 → Read line r
too_long line h = other (λ f i. omega (arith, i.short))

module _ (line : List ℕ) (l : LongLine) (k : CutRead line l) (long : 64 ≤ length line) where
  parted : (f : Call) → IsCall line f → Divided k.front k.rest
  parted f i = divided k.front k.rest k.ends k.far (rw k.parts at long) f (rw k.parts at i)

  pub no_list : {r : Answer Asked} → ((ts : List ℕ) → Below ts → k.rest ≡ commas ts → ⊥) → r ≡ refused 10 → Read line r
  no_list h = other (λ f i. let d = parted f i in h d.keys d.below d.list)

  pub read_with : length line < 256 → (ts : List ℕ) → Below ts → k.rest ≡ commas ts → {r : Answer Asked} → r ≡ retargeted (call_answered l.start) ts → Read line r
  read_with short ts b t {r} q = go k.start
    where
      call : (g : Call) → IsCall k.front g → call_answered l.start ≡ call_answer g → Opened g → Read line r
      call g i e o =
          let h = call_form o.kind o.x o.y (named ts) in
          let w : are_words (call_numbers h) ≡ true = below_words (call_numbers h) ((call_forms.made (record { kind = o.kind; x = o.x; y = o.y; z = o.z; to = named ts })).fits (o.small.0, o.small.1, o.small.2, b)) in
          form h (record {
            short = short;
            fits = w;
            same = k.parts ∙ (λ j. (i.same ∙ ap call_text o.is) j ++ t j) ∙ sym (front_text_law o.kind o.listed o.x o.y (named ts));
          })
          (q ∙ ap (λ (s : Answer Asked). retargeted s ts) (e ∙ ap call_answer o.is)
          ∙ retarget (λ us. call_form o.kind o.x o.y (named us)) (answered o.kind o.listed o.x o.y) ts (ap (λ (f : Call). are_words (call_numbers f)) (sym o.is) ∙ i.fits) w)

      go : CallRead k.front l.start → Read line r
      go (form g i e) = call g i e (opened k.front k.ends g i)
      go (other never e) = other (λ f i. let d = parted f i in never d.call d.is) (q ∙ ap (λ (s : Answer Asked). retargeted s ts) e)
