use Rattle.std.proofs.Common.{inr, subst}
use Rattle.charging.specs.declared.status.Status.TheVariants as status
use Rattle.charging.specs.declared.words.Task.{Task}
use Rattle.charging.specs.Tasks.{Accepts, Refuses}
use Rattle.charging.proofs.Causes.{accepted_ends, ended_with, refused_ends, refused_prints_nothing, same_task}
use Rattle.charging.proofs.top.charging.Goals as goal

pub returns-in-Ok-write_all-clause-refused : goal.returns-in-Ok-write_all-clause-refused
returns-in-Ok-write_all-clause-refused g c = λ task bytes row words left bad calm.
    let mine : Refuses c.in-Ok-Some.task bytes row = subst (λ (k : Task). Refuses k bytes row) (same_task _ _ _ words (rw (c.as_slice.ensures, c.in-Ok-Some.field-0-is) at c.in-Ok-Some.ensures.value)) bad in
    absurd (refused_prints_nothing c.in-Ok-Some.task _ bytes c.in-Ok.out.items row c.in-Ok.ensures.ok left mine)

pub returns-in-Ok-clause-refused : goal.returns-in-Ok-clause-refused
returns-in-Ok-clause-refused g c = λ task bytes row words left bad calm.
    let mine : Refuses c.in-Ok-Some.task bytes row = subst (λ (k : Task). Refuses k bytes row) (same_task _ _ _ words (rw (c.as_slice.ensures, c.in-Ok-Some.field-0-is) at c.in-Ok-Some.ensures.value)) bad in
    absurd (refused_prints_nothing c.in-Ok-Some.task _ bytes c.in-Ok.out.items row c.in-Ok.ensures.ok left mine)

pub returns-in-Ok-Some-clause-accepted : goal.returns-in-Ok-Some-clause-accepted
returns-in-Ok-Some-clause-accepted g c = λ task bytes words left good calm out.
    let mine : Accepts c.in-Ok-Some.task bytes = subst (λ (k : Task). Accepts k bytes) (same_task _ _ _ words (rw (c.as_slice.ensures, c.in-Ok-Some.field-0-is) at c.in-Ok-Some.ensures.value)) good in
    ended_with status.Ok c.in-Err-output_of_input.status c.ended.result (inr (accepted_ends c.in-Ok-Some.task c.in-Err-output_of_input.status _ _ _ bytes c.in-Err-output_of_input.ensures.err left mine calm)) c.ended.ensures.status

pub returns-in-Ok-Some-clause-refused : goal.returns-in-Ok-Some-clause-refused
returns-in-Ok-Some-clause-refused g c = λ task bytes row words left bad calm.
    let mine : Refuses c.in-Ok-Some.task bytes row = subst (λ (k : Task). Refuses k bytes row) (same_task _ _ _ words (rw (c.as_slice.ensures, c.in-Ok-Some.field-0-is) at c.in-Ok-Some.ensures.value)) bad in
    ended_with (status.BadInput row) c.in-Err-output_of_input.status c.ended.result (refused_ends c.in-Ok-Some.task c.in-Err-output_of_input.status _ _ _ bytes row c.in-Err-output_of_input.ensures.err left mine calm) c.ended.ensures.status
