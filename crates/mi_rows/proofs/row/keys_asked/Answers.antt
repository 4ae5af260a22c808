use Rattle.std.proofs.Common.{◌≡◌, ◌<◌, ◌+◌, ℕ, List, [], ◌∷◌, ◌++◌, false, length, map, take, sym, ap, subst, ◌∙◌, arith, rules}
use Rattle.std.specs.Prelude.{string_bytes}
use Rattle.std.specs.HashSet.{contains_text}
use Rattle.std.proofs.Math.Seq.{take-length}
use Rattle.mi_text.specs.Maps.{Name}
use Rattle.mi_idt.specs.Means.{meaning}
use Rattle.mi_rows.specs.Columns.{table_as}
use Rattle.mi_rows.specs.Rows.{keys_of}
use Rattle.mi_rows.specs.Reads.{KnowsKeys}
use Rattle.mi_rows.specs.Values.{row_of, is_key_in}
use Rattle.mi_rows.proofs.FieldLemmas.{knows_more}
use Rattle.mi_rows.proofs.FitLemmas.{rows_long}
use Rattle.mi_rows.proofs.KnownLemmas.{asked_on, asked_off}
use Rattle.mi_rows.proofs.RowLemmas.{keys_next}
use Rattle.mi_rows.proofs.row.keys_asked.Goals as goal

pub loop-number-preserved : goal.loop-number-preserved
loop-number-preserved c =
    let rows = (meaning c.args.table.now).rows in
    let cols = (table_as c.args.layout.now).columns in
    let number : ℕ = c.loop-number.number in
    let long = rows_long c.args.table.now in
    let lt : number < length rows = omega (arith, long, c.loop-number-test.true, c.len-number-end.ensures, c.args.table.now.rows.ok) in
    let names : List Name = keys_of (map (row_of cols) (take number rows)) in
    let next : names ++ string_bytes c.in_ok-key.key ∷ [] ≡ keys_of (map (row_of cols) (take (number + 1) rows)) = ap (λ (k : Name). names ++ k ∷ []) c.in_ok-key.ensures ∙ keys_next cols rows number lt in
    subst (KnowsKeys c.insert.new.self) next (knows_more c.loop-number.keys c.insert.new.self names (string_bytes c.in_ok-key.key) c.loop-number.invariant c.in_ok-insert.ensures.updates)

pub returns : goal.returns
returns c =
    let v = meaning c.args.table.now in
    let long = rows_long c.args.table.now in
    let all : c.loop-number.number ≡ length v.rows = omega (arith, long, c.loop-number-test.false, c.loop-number.auto.number-end, c.len-number-end.ensures, c.args.table.now.rows.ok) in
    subst (KnowsKeys c.loop-number.keys)
    (ap (λ n. keys_of (map (row_of (table_as c.args.layout.now).columns) (take n v.rows))) all ∙ ap (λ rows. keys_of (map (row_of (table_as c.args.layout.now).columns) rows)) (take-length v.rows)
    ∙ asked_on c.args.layout.now.columns.now c.args.layout.now.name.now v (sym c.asks_keys.ensures ∙ c.if-not-asks_keys.false))
    c.loop-number.invariant

pub returns-then-not-asks_keys : goal.returns-then-not-asks_keys
returns-then-not-asks_keys c = λ q.
    let none : contains_text c.new.result q ≡ false = search rules in
    none ∙ ap (λ (keys : List Name). is_key_in keys q) (asked_off c.args.layout.now.columns.now c.args.layout.now.name.now (meaning c.args.table.now) (sym c.asks_keys.ensures ∙ c.if-not-asks_keys.true))
