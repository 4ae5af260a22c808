use Rattle.std.proofs.Common.{◌≡◌, true, ap, subst, sym, cond, Err}
use Rattle.mi_base.specs.declared.rec_error.RecFault.TheVariants.{Field}
use Rattle.mi_base.specs.Limits.{are_bytes}
use Rattle.mi_base.specs.Reading.{Gives}
use Rattle.mi_base.specs.Records.{kind_of}
use Rattle.mi_base.proofs.ByteLemmas.{from_index}
use Rattle.mi_base.proofs.decode.entry_in.Goals as goal

pub returns : goal.returns
returns c =
    let good : are_bytes c.args.bytes.now ≡ true = from_index c.args.bytes.now (λ i. (c.type_inv.bytes i).fits) in
    let same = ap (λ b. cond b (kind_of c.args.kind c.args.rest.now c.args.bytes.now) (Err Field)) good in
    subst (Gives (λ e. e) c.kind_of.result) (sym same) c.kind_of.ensures
