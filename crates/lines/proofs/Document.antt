-- Document 01's own lines, S-6's and S-3's, computed: each form's text is the line printed there.
-- Assumes nothing.
use mathlib.Core.List.{[], ◌∷◌}
use mathlib.Core.Path.{◌≡◌, refl}
use Rattle.graph.specs.Calls.{add, map, link, unlink, sum, top, pick, near, unmap}
use Rattle.graph.specs.Targets.{named, whole}
use Rattle.graph.specs.Steps.{admit, realise, move, finish, join, split, swap, fuse}
use Rattle.text.specs.Text.{ascii, digits, decimal, further, commas}
use Rattle.lines.specs.Forms.{call_text, work, drain_form, step_text, claim_text}

record Calls : Type 0 where
  adds : call_text (add 5) ≡ ascii "call=add value=5"
  maps : call_text (map 3 4 (named (1 ∷ 2 ∷ []))) ≡ ascii "call=map a=3 b=4 to=1,2"
  links : call_text (link 2 (named (1 ∷ []))) ≡ ascii "call=link key=2 to=1"
  unlinks : call_text (unlink 2 (named (1 ∷ []))) ≡ ascii "call=unlink key=2 to=1"
  sums : call_text (sum 0 (named (1 ∷ 2 ∷ []))) ≡ ascii "call=sum start=0 to=1,2"
  tops : call_text (top 0 (named (1 ∷ 2 ∷ []))) ≡ ascii "call=top start=0 to=1,2"
  picks : call_text (pick 0 (named (1 ∷ []))) ≡ ascii "call=pick start=0 to=1"
  nears : call_text (near 2 0 (named (1 ∷ 3 ∷ []))) ≡ ascii "call=near key=2 start=0 to=1,3"
  unmaps : call_text (unmap 3 4 (named (1 ∷ []))) ≡ ascii "call=unmap a=3 b=4 to=1"
  wholes : call_text (map 3 4 whole) ≡ ascii "call=map a=3 b=4 to=all"
  bare : call_text (sum 4 (named [])) ≡ ascii "call=sum start=4 to="

calls : Calls
unfolding ascii digits decimal further commas
calls =
    record { adds = refl; maps = refl; links = refl; unlinks = refl; sums = refl; tops = refl; picks = refl; nears = refl; unmaps = refl; wholes = refl; bare = refl }

record Steps : Type 0 where
  admits : step_text (work admit) ≡ ascii "step=admit"
  realises : step_text (work (realise 2)) ≡ ascii "step=realise at=2"
  moves : step_text (work (move 2)) ≡ ascii "step=move at=2"
  finishes : step_text (work (finish 2)) ≡ ascii "step=finish at=2"
  joins : step_text (work (join 2 1)) ≡ ascii "step=join at=2 unit=1"
  splits : step_text (work (split 2 1 1)) ≡ ascii "step=split at=2 unit=1 after=1"
  swaps : step_text (work (swap 2 1)) ≡ ascii "step=swap at=2 unit=1"
  fuses : step_text (work (fuse 2 1)) ≡ ascii "step=fuse at=2 unit=1"
  drains : step_text drain_form ≡ ascii "step=drain"
  claims : claim_text 4 ≡ ascii "claim=4"

steps : Steps
unfolding ascii digits decimal
steps =
    record { admits = refl; realises = refl; moves = refl; finishes = refl; joins = refl; splits = refl; swaps = refl; fuses = refl; drains = refl; claims = refl }
