-- What is left of the bytes is no longer than they are.
use Rattle.std.proofs.Common.{arith}
use Rattle.std.specs.Int.{w32, w64}
use Rattle.mi_base.proofs.FrontLemmas.{number_shorter, numbers_shorter, version_shorter, shown_shorter}
use Rattle.mi_base.proofs.decode.head_at.Goals as goal

pub overflow_add-length : goal.overflow_add-length
overflow_add-length c =
    let s = shown_shorter c.args.more c.args.path.now c.args.bytes.now _ c.in_ok-shown.ensures.gives in
    let v = version_shorter c.in_ok-shown.rest.now _ c.in_ok-version.ensures in
    let l = numbers_shorter c.in_ok-version.rest.now _ c.in_ok-languages.ensures in
    let k = number_shorter w64 c.in_ok-languages.rest.now _ c.in_ok-created.ensures in
    let m = number_shorter w64 c.in_ok-created.rest.now _ c.in_ok-modified.ensures in
    let a = number_shorter w32 c.in_ok-modified.rest.now _ c.in_ok-attributes.ensures in
    record { fits = omega arith }
