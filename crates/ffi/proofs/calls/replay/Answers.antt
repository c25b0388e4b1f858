-- `replay` meets its contract: the number is that of the reader or of replay.
use mathlib.Core.Path.{◌≡◌}
use Rattle.std.proofs.Common.{rules}
use Rattle.std.specs.Prelude.{Err}
use Rattle.ffi.proofs.Ranges.{replay_fits}
use Rattle.ffi.proofs.Records.{was_read, was_refused}
use Rattle.ffi.proofs.Replies.{says_refused, end_said}
use Rattle.ffi.proofs.calls.replay.Goals as goal

pub returns-in_err-m : goal.returns-in_err-m
returns-in_err-m c =
    let refused : c.from_residual.result ≡ Err c.in_err-m.field-0.0 = search rules in
    rw (refused, was_refused _ c.in_err-m.ensures.answer) (says_refused c.in_err-m.field-0.0)

pub returns-in_err-end : goal.returns-in_err-end
returns-in_err-end c =
    let refused : c.from_residual-in_err-end.result ≡ Err c.in_err-end.field-0.0 = search rules in
    let m = was_read _ c.in_ok-m.ensures.answer c.in_ok-m.ensures.kept in
    rw (refused, m.read, ← c.in_err-end.ensures) (says_refused c.in_err-end.field-0.0)

pub with_depths-requires : goal.with_depths-requires
with_depths-requires c =
    let m = was_read _ c.in_ok-m.ensures.answer c.in_ok-m.ensures.kept in
    replay_fits _ _ m.valid c.in_ok-end.ensures

pub returns : goal.returns
returns c =
    let m = was_read _ c.in_ok-m.ensures.answer c.in_ok-m.ensures.kept in
    let fits = replay_fits _ _ m.valid c.in_ok-end.ensures in
    rw (m.read, ← c.in_ok-end.ensures) (end_said _ fits c.end_kind.ensures c.with_depths.ensures)
