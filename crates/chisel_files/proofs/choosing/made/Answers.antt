use Rattle.std.proofs.Common.{subst}
use Rattle.rely_kernel.specs.Setting.{marks_of}
use Rattle.rely_num.specs.OpenMarks.{AreOpenMarks}
use Rattle.chisel_files.proofs.Problems.{made_closed, made_started, made_unread, made_unstarted, made_valid}
use Rattle.chisel_files.proofs.choosing.made.Goals as goal

pub returns-in-Err-clause-comes : goal.returns-in-Err-clause-comes
returns-in-Err-clause-comes c =
    made_unread c.args.size c.args.number _ c.in_ok-source.ensures c.as_slice.result.now c.as_slice-2.result.now c.as_slice.ensures c.as_slice-2.ensures c.in-Err.fault c.in-Err.ensures.comes

pub returns-in-Err-open-clause-comes : goal.returns-in-Err-open-clause-comes
returns-in-Err-open-clause-comes c =
    made_closed c.args.size c.args.number _ c.in_ok-source.ensures c.as_slice.result.now c.as_slice-2.result.now c.as_slice.ensures c.as_slice-2.ensures c.in-Ok.meant c.in-Ok.ensures.comes c.new.result
    c.new.ensures c.in-Err-open.fault c.in-Err-open.ensures.comes

pub read-requires : goal.read-requires
read-requires c =
    made_valid c.in_ok-source.field-0.source c.in-Ok.meant c.new.result c.in-Ok-open.ready c.in-Ok.ensures.valid
    (subst (λ text. AreOpenMarks text (marks_of c.in-Ok.meant.linked.kernel)) c.as_slice.ensures c.in-Ok.ensures.marks) c.new.ensures c.in-Ok-open.ensures.same

pub returns-in-Ok-read-clause-comes : goal.returns-in-Ok-read-clause-comes
returns-in-Ok-read-clause-comes c =
    made_started c.args.size c.args.number _ c.in_ok-source.ensures c.as_slice.result.now c.as_slice-2.result.now c.as_slice.ensures c.as_slice-2.ensures c.in-Ok.meant c.in-Ok.ensures.comes c.new.result
    c.new.ensures c.in-Ok-open.ready c.in-Ok-open.ensures.comes c.as_slice-3.result.now c.as_slice-3.ensures c.in-Ok-read.starts c.in-Ok-read.ensures.ok

pub returns-clause-comes : goal.returns-clause-comes
returns-clause-comes c =
    made_unstarted c.args.size c.args.number _ c.in_ok-source.ensures c.as_slice.result.now c.as_slice-2.result.now c.as_slice.ensures c.as_slice-2.ensures c.in-Ok.meant c.in-Ok.ensures.comes c.new.result
    c.new.ensures c.in-Ok-open.ready c.in-Ok-open.ensures.comes c.as_slice-3.result.now c.as_slice-3.ensures c.in-Err-read.fault _ _ c.in-Err-read.ensures.err c.input_refusal.ensures c.fault_on.ensures
