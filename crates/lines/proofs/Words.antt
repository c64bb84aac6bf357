-- A line that begins with a head and a word, which decides the fields that follow.
-- Assumes nothing.
use Prim.Native.Nat.{ℕ, ◌+◌, ◌<◌}
use mathlib.Core.Path.{◌≡◌, refl, sym, ap, subst, ◌∙◌}
use mathlib.Core.Bool.{Bool, true, false}
use mathlib.Core.List.{List, [], ◌∷◌, ◌++◌}
use native.Mathlib.Omega.{arith}
use lib.ListN.{length, drop}
use Rattle.graph.specs.Targets.{To, keys_listed}
use Rattle.graph.specs.Words.{modulus}
use Rattle.text.specs.Text.{up_to, decimal, ascii}
use Rattle.text.specs.Inner.PartsRead.{LiteralAt, Gap}
use Rattle.std.proofs.Common.{Some, None}
use Rattle.text.proofs.Splits.{Clean, part, part_is, cancel, same_number}
use Rattle.keylists.specs.Inner.ListsRead.{Below}
use Rattle.lines.specs.Forms.{to_text, TextOf}
use Rattle.lines.specs.Inner.Answers.{ReadAs, form, other}
use Rattle.lines.specs.Inner.LineParts.{tail_text, Tailed, fields_text, Spare, Values, ValuesOf}
use Rattle.lines.proofs.ToTexts.{to_inj}
use Rattle.keylists.proofs.KeyLists.{words_below, below_words}
use Rattle.lines.proofs.Chains.{Literals, fields_gap}

-- ---- the lines of several kinds: a head, a word for each kind, and the fields after it

-- a kind's word, which holds no space and names it, and its literals
pub record KindOf {Kind : Type 0} (named : List ℕ → Kind) (k : Kind) (word : List ℕ) (literals : List (List ℕ)) : Type 0 where
  pub clean : Clean 32 word
  pub some : 0 < length word
  pub names : k ≡ named word
  pub gaps : Literals literals

pub record Grammar (Kind : Type 0) : Type 0 where
  pub head : List ℕ
  pub word : Kind → List ℕ
  pub literals : Kind → List (List ℕ)
  pub listed : Kind → Bool
  pub named : List ℕ → Kind
  pub kinds : (k : Kind) → KindOf named k (word k) (literals k)

-- a line taken apart
pub record Parts (Kind : Type 0) : Type 0 where
  pub kind : Kind
  pub x : ℕ
  pub y : ℕ
  pub z : ℕ
  pub to : To

abbrev with_kind : {K : Type 0} → K → Parts K → Parts K
with_kind k p = record { kind = k; x = p.x; y = p.y; z = p.z; to = p.to }

-- its numbers are 32-bit numbers
abbrev pub Small : {K : Type 0} → Parts K → Type 0
Small p = (p.x < modulus) × (p.y < modulus) × (p.z < modulus) × Below (keys_listed p.to)

-- what its kind has no use for is zero, or empty
abbrev pub Unused : {K : Type 0} → Grammar K → Parts K → Type 0
Unused G p = Spare (G.literals p.kind) p.x p.y p.z × Tailed (G.listed p.kind) p.to

abbrev pub fields_in : {K : Type 0} → Grammar K → Parts K → List ℕ
fields_in G p = fields_text (G.literals p.kind) (G.listed p.kind) p.x p.y p.z p.to

abbrev pub text_in : {K : Type 0} → Grammar K → Parts K → List ℕ
text_in G p = G.head ++ (G.word p.kind ++ fields_in G p)

-- what stands after a word of this kind
abbrev pub parts_with : {K : Type 0} → K → Values → Parts K
parts_with k v = record { kind = k; x = v.x; y = v.y; z = v.z; to = v.to }

module _ {K : Type 0} (G : Grammar K) where
  apart : (j k : K) → G.word j ≡ G.word k → j ≡ k
  apart j k e = (G.kinds j).names ∙ ap G.named e ∙ sym (G.kinds k).names

  gap_in : (p : Parts K) → Gap 32 (fields_in G p)
  gap_in p = fields_gap (G.literals p.kind) (G.kinds p.kind).gaps (G.listed p.kind) p.x p.y p.z p.to

  pub word_in : (p : Parts K) (l : List ℕ) → l ≡ G.word p.kind ++ fields_in G p → up_to 32 l ≡ G.word p.kind
  word_in p l e = part_is 32 l (G.word p.kind) (fields_in G p) e (G.kinds p.kind).clean (gap_in p)

  -- the line's word, and what stands after it
  module _ (line : List ℕ) (n : ℕ) (h : LiteralAt line 0 G.head (Some n)) (word : List ℕ) (v : word ≡ up_to 32 (drop n line)) where
    rest_in : (p : Parts K) → line ≡ text_in G p → drop n line ≡ G.word p.kind ++ fields_in G p
    rest_in p e = cancel G.head (drop n line) (G.word p.kind ++ fields_in G p) (sym h.1 ∙ e)

    word_is : (p : Parts K) → line ≡ text_in G p → word ≡ G.word p.kind
    word_is p e = v ∙ word_in p (drop n line) (rest_in p e)

    module _ (k : K) (w : word ≡ G.word k) where
      after_word : drop n line ≡ G.word k ++ drop (n + length word) line
      after_word =
          subst (λ (l : List ℕ). drop n line ≡ l ++ drop (n + length l) line) (sym v) (part 32 line n h.0).text ∙ ap (λ (l : List ℕ). l ++ drop (n + length word) line) w

      -- the fields of a line that has this word
      fields_are : (p : Parts K) → line ≡ text_in G p → (p.kind ≡ k) × (drop (n + length word) line ≡ fields_in G (with_kind k p))
      fields_are p e =
          let same : p.kind ≡ k = apart p.kind k (sym (word_is p e) ∙ w) in
          let q : drop n line ≡ G.word k ++ fields_in G (with_kind k p) = subst (λ (j : K). drop n line ≡ G.word j ++ fields_in G (with_kind j p)) same (rest_in p e) in
          (same, cancel (G.word k) (drop (n + length word) line) (fields_in G (with_kind k p)) (sym after_word ∙ q))

-- ---- the text determines the kind, the numbers and the targets

tail_inj : (listed : Bool) (to to' : To) → Tailed listed to → Tailed listed to' → tail_text listed to ≡ tail_text listed to' → to ≡ to'
tail_inj true to to' p q e = to_inj to to' (cancel (ascii " to=") (to_text to) (to_text to') e)
tail_inj false to to' p q e = p ∙ sym q

fields_inj : (literals : List (List ℕ)) → Literals literals → (listed : Bool) (x y z x' y' z' : ℕ) (to to' : To)
    → Spare literals x y z → Spare literals x' y' z' → Tailed listed to → Tailed listed to'
    → fields_text literals listed x y z to ≡ fields_text literals listed x' y' z' to' → (x ≡ x') × (y ≡ y') × (z ≡ z') × (to ≡ to')
fields_inj [] g listed x y z x' y' z' to to' s s' t t' e = (s.0 ∙ sym s'.0, s.1 ∙ sym s'.1, s.2 ∙ sym s'.2, tail_inj listed to to' t t' e)
fields_inj ([] ∷ others) g listed x y z x' y' z' to to' s s' t t' e = absurd g
fields_inj ((c ∷ cs) ∷ others) g listed x y z x' y' z' to to' s s' t t' e =
    let a = fields_text others listed y z 0 to in
    let b = fields_text others listed y' z' 0 to' in
    let p = same_number 32 (omega arith) x x' a b (cancel (c ∷ cs) (decimal x ++ a) (decimal x' ++ b) e) (fields_gap others g.1 listed y z 0 to) (fields_gap others g.1 listed y' z' 0 to') in
    let q = fields_inj others g.1 listed y z 0 y' z' 0 to to' s s' t t' p.1 in
    (p.0, q.0, q.1, q.3)

module _ {K : Type 0} (G : Grammar K) where
  kind_inj : (p q : Parts K) → text_in G p ≡ text_in G q → p.kind ≡ q.kind
  kind_inj p q e =
      apart G p.kind q.kind
      (sym (word_in G p (G.word p.kind ++ fields_in G p) refl)
      ∙ word_in G q (G.word p.kind ++ fields_in G p) (cancel G.head (G.word p.kind ++ fields_in G p) (G.word q.kind ++ fields_in G q) e))

  parts_inj : (p q : Parts K) → Unused G p → Unused G q → text_in G p ≡ text_in G q → p ≡ q
  parts_inj p q u v e =
      let k : p.kind ≡ q.kind = kind_inj p q e in
      let p' : Parts K = with_kind q.kind p in
      let u' : Unused G p' = subst (λ (j : K). Unused G (with_kind j p)) k u in
      let e' : text_in G p' ≡ text_in G q = subst (λ (j : K). text_in G (with_kind j p) ≡ text_in G q) k e in
      let m =
      fields_inj (G.literals q.kind) (G.kinds q.kind).gaps (G.listed q.kind) p.x p.y p.z q.x q.y q.z p.to q.to u'.0 v.0 u'.1 v.1
      (cancel (G.word q.kind) (fields_in G p') (fields_in G q) (cancel G.head (G.word q.kind ++ fields_in G p') (G.word q.kind ++ fields_in G q) e')) in
      λ i. record { kind = k i; x = m.0 i; y = m.1 i; z = m.2 i; to = m.3 i }

-- ---- forms whose texts are the lines of a grammar

-- p is what the form f is taken apart into
pub record PartsOf {K F : Type 0} (G : Grammar K) (numbers : F → List ℕ) (form_of : Parts K → F) (f : F) (p : Parts K) : Type 0 where
  pub back : form_of p ≡ f
  pub unused : Unused G p
  pub small : Below (numbers f) → Small p

-- f is what the parts p make
pub record Made {K F : Type 0} (G : Grammar K) (text numbers : F → List ℕ) (p : Parts K) (f : F) : Type 0 where
  pub same : text_in G p ≡ text f
  pub fits : Small p → Below (numbers f)

pub record Forms {K F : Type 0} (G : Grammar K) (text numbers : F → List ℕ) (form_of : Parts K → F) (parts_of : F → Parts K) : Type 0 where
  pub parts : (f : F) → PartsOf G numbers form_of f (parts_of f)
  pub made : (p : Parts K) → Made G text numbers p (form_of p)

module _ {K F : Type 0} {G : Grammar K} {text numbers : F → List ℕ} {form_of : Parts K → F} {parts_of : F → Parts K} (L : Forms G text numbers form_of parts_of) where
  pub text_of : (f : F) → text f ≡ text_in G (parts_of f)
  text_of f = ap text (sym (L.parts f).back) ∙ sym (L.made (parts_of f)).same

  -- a line's text determines the form
  pub unique : (f g : F) → text f ≡ text g → f ≡ g
  unique f g e =
      sym (L.parts f).back
      ∙ ap form_of (parts_inj G (parts_of f) (parts_of g) (L.parts f).unused (L.parts g).unused (sym (text_of f) ∙ e ∙ text_of g))
      ∙ (L.parts g).back

  -- the answer, by the word after the head and what stands after the word
  module _ {R : Type 0} (answer : F → R) (ten r : R) (line : List ℕ) where
    abbrev Read : Type 0
    Read = ReadAs (TextOf text numbers line) answer ten r

    pub reads_no_head : LiteralAt line 0 G.head None → r ≡ ten → Read
    reads_no_head p = other (λ f i. p (G.word (parts_of f).kind ++ fields_in G (parts_of f)) (i.same ∙ text_of f))

    module _ (short : length line < 256) (n : ℕ) (h : LiteralAt line 0 G.head (Some n)) (word : List ℕ) (v : word ≡ up_to 32 (drop n line)) where
      pub reads_no_word : ((k : K) → word ≡ G.word k → ⊥) → r ≡ ten → Read
      reads_no_word never = other (λ f i. never (parts_of f).kind (word_is G line n h word v (parts_of f) (i.same ∙ text_of f)))

      pub reads_after : (k : K) → word ≡ G.word k → ReadAs (ValuesOf (G.literals k) (G.listed k) (drop (n + length word) line)) (λ v. answer (form_of (parts_with k v))) ten r → Read
      reads_after k w (form x i e) =
          let p : Parts K = parts_with k x in
          let same : line ≡ text_in G p = h.1 ∙ ap (λ (l : List ℕ). G.head ++ l) (after_word G line n h word v k w ∙ ap (λ (l : List ℕ). G.word k ++ l) i.same) in
          form (form_of p) (record { short = short; fits = below_words (numbers (form_of p)) ((L.made p).fits i.small); same = same ∙ (L.made p).same }) e
      reads_after k w (other never e) =
          other (λ f i.
          let p : Parts K = parts_of f in
          let s = (L.parts f).small (words_below (numbers f) i.fits) in
          let a = fields_are G line n h word v k w p (i.same ∙ text_of f) in
          let u : Unused G (with_kind k p) = subst (λ (j : K). Unused G (with_kind j p)) a.0 (L.parts f).unused in
          never (record { x = p.x; y = p.y; z = p.z; to = p.to }) (record { small = s; spare = u.0; tailed = u.1; same = a.1 }))
          e
