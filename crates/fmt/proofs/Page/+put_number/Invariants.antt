-- `put_number` meets its contract: the number falls.
use Rattle.fmt.proofs.Page.+put_number.Given as goal

abbrev pub decreases-put_number : goal.decreases-put_number
decreases-put_number l = l.x
