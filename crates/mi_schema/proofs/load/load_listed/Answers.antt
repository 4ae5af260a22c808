use Rattle.std.proofs.Common.{OnOk, sym, subst}
use Rattle.mi_schema.specs.declared.known.Listed.{Listed as InCode}
use Rattle.mi_schema.specs.Checks.{content_of}
use Rattle.mi_schema.specs.Tables.{table_of, listed_as}
use Rattle.mi_schema.specs.Loaded.{IsPut, IsOther}
use Rattle.mi_schema.proofs.LoadLemmas.{on_ok, refused_holds}
use Rattle.mi_schema.proofs.load.load_listed.Goals as goal

pub returns-in-Refused-clause-put : goal.returns-in-Refused-clause-put
returns-in-Refused-clause-put g c =
    let other = subst (λ (t : InCode). IsOther (listed_as t)) c.in-Refused.is c.requires in
    subst (λ (t : InCode). OnOk c.refuse_table.result (IsPut g.S.Source.told (content_of (g.S.Source.files c.args.src.now) c.args.folder.now) (table_of (listed_as t)) c.args.loaded.now c.args.loaded.now)) (sym c.in-Refused.is)
    (on_ok c.refuse_table.result c.refuse_table.ensures.read (λ read. record { found = read.found; same = read.same; right = read.right; holds = λ content h. refused_holds c.args.loaded.now content _ read.found other h }))
