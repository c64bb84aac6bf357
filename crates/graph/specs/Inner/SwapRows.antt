-- The row and column of each act in the swap table: document 01, "A square table, kind against kind".
-- Assumes nothing.
use Rattle.std.specs.Prelude.{ℕ}
use Rattle.graph.specs.declared.act.Act.{Act}
use Rattle.graph.specs.declared.act.Act.TheVariants.{Map, Link, Unlink, Sum, Top, Pick, Near}

-- the place of the act in the rules' list of calls (docs/RULES.md): map, link, unlink, sum, top, pick, near
abbrev pub swap_row : Act → ℕ
swap_row (Map m) = 0
swap_row (Link k) = 1
swap_row (Unlink k) = 2
swap_row Sum = 3
swap_row Top = 4
swap_row Pick = 5
swap_row (Near k) = 6
