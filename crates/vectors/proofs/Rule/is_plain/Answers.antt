-- `vectors::Rule::is_plain` meets its contract.
use Rattle.std.proofs.Common.{sym, ◌∙◌, arith}
use Rattle.vectors.proofs.Lots.{judged_plain}
use Rattle.vectors.proofs.Plain.{on_1, on_2, on_3, on_5, on_7, width_1, width_2, width_3, width_5, width_7}
use Rattle.vectors.proofs.Rule.is_plain.Goals as goal

pub returns-in-1 : goal.returns-in-1
returns-in-1 c =
    let n = c.new.ensures in
    λ h. rw c.in-1.is (judged_plain 1 1 _ _ _ _ _ _ _ _ _ _ (on_1 _) (width_1, omega arith) n.marks n.most (sym c.all_pass.ensures ∙ h))

pub returns-in-2 : goal.returns-in-2
returns-in-2 c =
    let n = c.new-in-2.ensures in
    λ h. rw c.in-2.is (judged_plain 2 2 _ _ _ _ _ _ _ _ _ _ (on_2 _) (width_2, omega arith) n.marks n.most (sym c.all_pass-in-2.ensures ∙ h))

pub returns-in-3 : goal.returns-in-3
returns-in-3 c =
    let n = c.new-in-3.ensures in
    λ h. rw c.in-3.is (judged_plain 3 4 _ _ _ _ _ _ _ _ _ _ (on_3 _) (width_3, omega arith) n.marks n.most (sym c.all_pass-in-3.ensures ∙ h))

pub returns-in-5 : goal.returns-in-5
returns-in-5 c =
    let n = c.new-in-5.ensures in
    λ h. rw c.in-5.is (judged_plain 5 4 _ _ _ _ _ _ _ _ _ _ (on_5 _) (width_5, omega arith) n.marks n.most (sym c.all_pass-in-5.ensures ∙ h))

pub returns-in-7 : goal.returns-in-7
returns-in-7 c =
    let n = c.new-in-7.ensures in
    λ h. rw c.in-7.is (judged_plain 7 1 _ _ _ _ _ _ _ _ _ _ (on_7 _) (width_7, omega arith) n.marks n.most (sym c.all_pass-in-7.ensures ∙ h))
