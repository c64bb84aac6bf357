-- Up to the first blank the columns hold a link list's text, and then blanks; or no link list stands there.
-- Assumes nothing.
use Rattle.std.proofs.Common.{rules}
use Rattle.keylists.specs.Inner.ListsRead.{KeysRead}
use Rattle.std.specs.Prelude.{Some}
use Rattle.pagelines.proofs.FieldsRead.{text, text_within, links_untidy, links_unread, links_other, links_stand}
use Rattle.pagelines.proofs.columns.links_left.Goals as goal
use Rattle.pagelines.proofs.columns.links_left.Goals.{In_ok-read}

reading : (c : In_ok-read) → KeysRead (text c.args.s.now c.args.at c.requires) (Some c.in_ok-read.read)
reading c = rw (← c.part_to-text.ensures) c.in_ok-read.ensures

pub slice_bounds-is_blank-count : goal.slice_bounds-is_blank-count
slice_bounds-is_blank-count c = rw c.part_to-text.ensures (text_within _ _ c.requires)

pub slice_bounds-is_blank-start : goal.slice_bounds-is_blank-start
slice_bounds-is_blank-start c = rw c.part_to-text.ensures (text_within _ _ c.requires)

pub returns-then-not-is_blank : goal.returns-then-not-is_blank
returns-then-not-is_blank c = links_untidy _ _ c.requires (search rules)

pub returns-in_err-read : goal.returns-in_err-read
returns-in_err-read c = rw c.from_residual.ensures (links_unread _ _ c.requires (rw c.part_to-text.ensures at c.in_err-read.ensures))

pub returns-then-not-are_links : goal.returns-then-not-are_links
returns-then-not-are_links c =
    let r = reading (goal.at.returns-then-not-are_links c).In_ok-read in
    links_other _ _ c.requires r.0 _ r.2 r.3 (search rules)

pub returns : goal.returns
returns c =
    let r = reading (goal.at.returns c).In_ok-read in
    links_stand _ _ c.requires r.0 _ r.2 r.3 (search rules) (search rules)
