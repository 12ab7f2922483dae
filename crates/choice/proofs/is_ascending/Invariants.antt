-- `choice::is_ascending` meets its contract. The loop's invariant: the whole choice ascends as what is left of it does.
use Rattle.std.proofs.Common.{◌≡◌, drop}
use Rattle.choice.specs.Choice.{ascending_from}
use Rattle.choice.proofs.is_ascending.Given as goal

abbrev pub invariant-loop-c : goal.invariant-loop-c
invariant-loop-c l = ascending_from 0 l.people l.choice ≡ ascending_from l.least l.people (drop l.c-index l.choice)
