-- What the source has of the row's file, copied.
use Rattle.std.proofs.Common.{refl, ap, ◌∙◌}
use Rattle.std.specs.Prelude.{Ok}
use Rattle.std.specs.FinMap.{get}
use Rattle.mi_model.specs.InstallFiles.{source_bytes, right_file, installed_file, file_with_parents}
use Rattle.mi_model.specs.Refusals.{◌>>=◌}
use Rattle.mi_installs.specs.Installs.{written_row}
use Rattle.mi_installs.specs.Placings.{as_placed}
use Rattle.mi_installs.proofs.InstallLemmas.{right_found, bytes_of_source, row_made, row_refused}
use Rattle.mi_installs.proofs.writing.write_from.Goals as goal

pub returns-in_ok-copy_row-in-Ok-clause-row : goal.returns-in_ok-copy_row-in-Ok-clause-row
returns-in_ok-copy_row-in-Ok-clause-row g c = λ held w now path told over.
    let p = c.args.placed.now in
    let files = g.S.Source.files c.args.src.now in
    let at = c.args.path.now in
    let finds = c.in-Ok.ensures.finds told in
    let found = right_found p.row.now (get files at) finds.0 finds.1 in
    row_made held files c.args.plan.now c.copy_row.new.plan {A = Unit {0}} (written_row w (as_placed p)) (source_bytes w p.row.now) finds.0 (λ bytes. file_with_parents (installed_file w (as_placed p) bytes)) tt refl
    (bytes_of_source w p.row.now files at over path ∙ finds.1) (c.in_ok-copy_row-in-Ok.ensures.makes held files w finds.0 now found.there)

pub returns-in_ok-copy_row-in-Ok-clause-there : goal.returns-in_ok-copy_row-in-Ok-clause-there
returns-in_ok-copy_row-in-Ok-clause-there g c = λ held told.
    let files = g.S.Source.files c.args.src.now in
    let finds = c.in-Ok.ensures.finds told in
    let found = right_found c.args.placed.now.row.now (get files c.args.path.now) finds.0 finds.1 in
    c.in_ok-copy_row-in-Ok.ensures.there held files finds.0 found.there found.long

pub returns-in_ok-copy_row-in-Ok-clause-lengths : goal.returns-in_ok-copy_row-in-Ok-clause-lengths
returns-in_ok-copy_row-in-Ok-clause-lengths g c = λ told.
    let files = g.S.Source.files c.args.src.now in
    let finds = c.in-Ok.ensures.finds told in
    let found = right_found c.args.placed.now.row.now (get files c.args.path.now) finds.0 finds.1 in
    c.in_ok-copy_row-in-Ok.ensures.lengths files finds.0 found.there found.long

pub returns-in-Err-clause-row : goal.returns-in-Err-clause-row
returns-in-Err-clause-row g c = λ held w now path told over.
    let p = c.args.placed.now in
    let files = g.S.Source.files c.args.src.now in
    let at = c.args.path.now in
    row_refused held files c.args.plan.now c.args.plan.now (Unit {0}) (Unit {0}) (written_row w (as_placed p)) (right_file p.row.now (get files at)) (λ bytes. Ok (file_with_parents (installed_file w (as_placed p) bytes))) c.in-Err.error
    (ap (λ r. r >>= λ bytes. Ok (file_with_parents (installed_file w (as_placed p) bytes))) (bytes_of_source w p.row.now files at over path)) (c.in-Err.ensures.finds told)
