-- `text::number::decimal_len` meets its contract, by recursion on the number.
-- Assumes nothing.
use Rattle.text.proofs.number.+decimal_len.Given as goal

abbrev pub decreases-decimal_len : goal.decreases-decimal_len
decreases-decimal_len l = l.v
