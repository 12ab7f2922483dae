-- Values as a builder is given them: how they are judged is said in rules, and how they are written in append.
pub use Rattle.build_rules.specs.Values.{given_as, any}
unfoldable pub use Rattle.build_rules.specs.Values.{given_number}
pub use Rattle.shown.specs.Values.{written_as}
unfoldable pub use Rattle.shown.specs.Values.{given_bytes, pair_bytes}
