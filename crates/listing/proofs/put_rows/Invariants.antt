-- `listing::put_rows` meets its contract. The loop's invariant is `Underway`: the rows listed so far, and that walking on
-- finds the rest.
use Rattle.listing.proofs.Underway.{Underway}
use Rattle.listing.proofs.put_rows.Given as goal

abbrev pub invariant-loop-number : goal.invariant-loop-number
invariant-loop-number l = Underway l.file l.initial.out l.rows l.at l.out l.end l.from l.number
