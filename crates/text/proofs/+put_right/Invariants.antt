-- `put_right` meets its contract: a digit alone has blanks before it, and the last of several the number without it, in one column
-- fewer. The columns fall with each call.
use Rattle.text.proofs.+put_right.Given as goal

abbrev pub decreases-put_right : goal.decreases-put_right
decreases-put_right l = l.width
