-- `write` meets its contract: each way out has its answer, and what is copied is the front of the buffer, the record.
use mathlib.Core.Path.{◌≡◌, sym, ◌∙◌}
use native.Mathlib.Omega.{arith}
use lib.ListN.{length}
use Rattle.std.proofs.Common.{rules, Err}
use Rattle.model.specs.Valid.{Places}
use Rattle.model.proofs.Checks.{length_mapped}
use Rattle.record.proofs.Refused.{in_order}
use Rattle.record.proofs.Writing.{Told, front, faulty, short, whole}
use Rattle.writer.proofs.Lengths.{at_most}
use Rattle.writer.specs.Writer.{record_of}
use Rattle.record.proofs.write.Goals as goal

pub returns-in_err-check : goal.returns-in_err-check
returns-in_err-check c =
    let said : c.from_residual.result ≡ Err c.in_err-check.field-0.0 = search rules in
    let t : Told c.args.m c.args.store.now c.from_residual.result c.args.store.now =
    rw said (faulty c.args.m c.args.store.now c.in_err-check.field-0.0 c.in_err-check.ensures) in
    record { answer = t.0; stored = t.1.0; survives = t.1.1 }

pub returns-in_err-need : goal.returns-in_err-need
returns-in_err-need c =
    let said : c.from_residual-in_err-need.result ≡ Err c.in_err-need.field-0.0 = search rules in
    let size : c.put_record-n.result ≡ length (record_of c.args.m) = omega arith in
    let t : Told c.args.m c.args.store.now c.from_residual-in_err-need.result c.args.store.now =
    rw said
    (short c.args.m c.args.store.now (sym c.in_ok-check.ensures) c.in_err-need.field-0.0 (rw size at c.in_err-need.ensures)) in
    record { answer = t.0; stored = t.1.0; survives = t.1.1 }

pub returns : goal.returns
returns c =
    let ok = sym c.in_ok-check.ensures in
    let fields = c.well_formed.0.0.1.1.1.1 in
    let a = fields.0 in
    let b = fields.1.0 in
    let places : Places c.args.m =
    record { a = search (length_mapped, rules); b = search (length_mapped, rules); held_a = search rules; held_b = search rules } in
    let copied : c.copy_from_slice.new.self ≡ record_of c.args.m = c.copy_from_slice.ensures.after ∙ front _ c.put_record-n.ensures (at_most _ ok) in
    let t = whole c.args.m c.args.store.now ok places {n = c.put_record-n.result} (omega arith) (in_order 6 _ _ c.in_ok-need.ensures) in
    record { answer = t.0; stored = rw copied t.1.0; survives = rw copied t.1.1 }
