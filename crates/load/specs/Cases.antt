-- S-14's own case, and others, computed. proofs/Cases.antt proves them.
-- Assumes nothing.
use Rattle.std.specs.Prelude.{◌≡◌, [], ◌∷◌, ◌++◌, length, replicate}
use Rattle.graph.specs.Calls.{add, link, top, pick, near}
use Rattle.graph.specs.Targets.{named}
use Rattle.text.specs.Text.{ascii}
use Rattle.print.specs.Printed.{newline}
use Rattle.graph.specs.Refusals.{refused, done}
use Rattle.panel.specs.Returned.{answer_number}
use Rattle.load.specs.declared.kind.Kind.TheVariants.{Pick}
use Rattle.load.specs.Load.{drawn, kind_of, load, load_text}
use Rattle.load.specs.Entry.{loaded}

pub record Cases : Type 0 where
  -- "From seed 0 the first draw is 15,470 and the call is pick."
  pub first_draw : drawn 1 0 ≡ 15470
  pub first_kind : kind_of (drawn 1 0) ≡ Pick
  pub three_calls : load 0 3
      ≡ pick 18256 (named (19 ∷ 26 ∷ 47 ∷ 58 ∷ 63 ∷ []))
      ∷ top 38128 (named (7 ∷ 18 ∷ 23 ∷ 36 ∷ 59 ∷ []))
      ∷ top 20425 (named (10 ∷ 29 ∷ 46 ∷ []))
      ∷ []
  pub first_line : load_text 0 1 ≡ ascii "call=pick start=18256 to=19,26,47,58,63" ++ newline
  -- a call without targets, and an add
  pub bare : load 1 3 ≡ add 24200 ∷ pick 46195 (named []) ∷ add 50774 ∷ []
  -- drawn were 24, 24, 1 and 7
  pub repeated : load 37 1 ≡ link 54 (named (1 ∷ 7 ∷ 24 ∷ [])) ∷ []
  -- no line is longer than this one (`short` of `AcceptedLine`)
  pub longest : load 1762 1 ≡ near 62 18055 (named (13 ∷ 24 ∷ 25 ∷ 31 ∷ 37 ∷ 38 ∷ 42 ∷ 59 ∷ [])) ∷ []
  pub longest_text : length (load_text 1762 1) ≡ 56
  -- the line and its newline are written, and two bytes more stay
  pub served : loaded 1 1 (replicate 23 35) ≡ record { answer = answer_number (done 21); output = ascii "call=add value=24200" ++ newline ++ ascii "##" }
  -- "46 a count above 64, then with 47 an output shorter than the lines"; no line at all needs no room
  pub no_lines : loaded 0 0 [] ≡ record { answer = answer_number (done 0); output = [] }
  pub many : loaded 0 65 [] ≡ record { answer = answer_number (refused 46); output = [] }
  pub no_room : loaded 0 1 [] ≡ record { answer = answer_number (refused 47); output = [] }
