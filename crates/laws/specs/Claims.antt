-- Open this file first: all that is claimed of the definitions, one line for each claim, as a single record with a single proof (proofs/Claims). Each line
-- names a page, in the file of that name beside this one, where the claim stands law by law with a sentence for each. That each public function answers
-- what the definitions say is its contract, proved where the function stands. Examples stand apart, in Sample, BareSample, Cut and Fetched.
use Rattle.laws.specs.Account.{Accounts}
use Rattle.laws.specs.Answers.{Answers}
use Rattle.laws.specs.Bare.{Bare}
use Rattle.laws.specs.Building.{Building}
use Rattle.laws.specs.Choosing.{ChoosingPeople}
use Rattle.laws.specs.Marked.{Marked}
use Rattle.laws.specs.Reading.{Readings}
use Rattle.laws.specs.Refusals.{Refusals}
use Rattle.laws.specs.Tallying.{Tallying}
use Rattle.laws.specs.Tightening.{Tightening}
use Rattle.laws.specs.VcfLines.{VcfLines}
use Rattle.laws.specs.Witness.{Witness}

pub record Claims : Type 1 where
  -- demand 1: a refusal has a number that 01 or 02 lists for its function, at place 0 or at a place of the record, and leaves what was lent as it was
  pub refusals : Refusals
  -- demand 2, reading: what is told are the bytes there, what an accepted record shows is what is fetched and keeps each of 01's rules, its blocks are
  -- filled to their last byte, and bytes after it make no difference
  pub reading : Readings
  -- demand 2, building: what was built reads back as given, what keeps the rules is never refused, and a tight record built again is the same bytes
  pub building : Building
  -- and every accepted record builds again, to a tight record that shows the same and is no longer
  pub tightening : Tightening
  -- demand 3: the chosen record is accepted and holds exactly the chosen people's values, byte by byte; everybody is the same bytes; a choice of a choice is
  -- one choice; the tallies of two parts add up; and the function answers just that
  pub choosing : ChoosingPeople
  -- the tally: each counter counts the slots that say what it counts, and a slot is counted because it is no end of vector
  pub tallying : Tallying
  -- fetching and the walker: one account of what a record holds, judged in turn, fetched by number, walked over, and shown
  pub account : Accounts
  -- a bare 00: where it stands, what is told of it, and what building again makes of it
  pub bare : Bare
  -- Req 04: a VCF line is of what the record shows and ends with a line feed; under the request's conditions, each of which is needed, two lines tell their
  -- records apart; QUAL prints as its digits; and the line of a chosen record is of the chosen people
  pub vcf_lines : VcfLines
  -- uniqueness: two answers that meet a promise are equal, and what is told in numbers can be read from them
  pub answers : Answers
  -- 01's marked examples, M1 to M12
  pub marked : Marked
  -- and the hypotheses are met: a record with everything in it is accepted
  pub witness : Witness
