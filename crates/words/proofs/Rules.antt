-- The rules that answer a `returns` whose definition goes by `pick`: `search tests`. Rests on the kit's facts about tests.
use borrow.Author.Tests.{lt-ltb, le-ltb, le-leb, lt-leb, eq-eqb, ne_eqb}

pub ruleset tests = (lt-ltb, le-ltb, le-leb, lt-leb, eq-eqb, ne_eqb)
