-- `text::number::put_wide` meets its contract, by recursion on the number: all digits but the last are written first.
-- Assumes nothing.
use Rattle.text.proofs.number.+put_wide.Given as goal

abbrev pub decreases-put_wide : goal.decreases-put_wide
decreases-put_wide l = l.v
