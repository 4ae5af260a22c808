use Rattle.std.proofs.Common.{◌≡◌, ℕ, ◌+◌, false, List, [], ◌∷◌, ◌++◌, map, take, get_or, sym, ap, ◌∙◌, arith}
use Rattle.std.specs.Prelude.{is_some, string_bytes, String}
use Rattle.std.specs.declared.alloc.Global.{Global}
use Rattle.std.specs.Borrow.{Bor}
use Rattle.std.specs.BTreeMap.{BTreeMap, get_by_text}
use Rattle.mi_text.specs.Maps.{Name, same_name}
use Rattle.mi_dirs.specs.Places.{first_row}
use Rattle.mi_dirs.proofs.RowLemmas.{index_more, index_same, keys_more, keys_taken}
use Rattle.mi_dirs.proofs.index.index_of.Goals as goal
use Rattle.mi_dirs.proofs.index.index_of.Goals.{then-not-contains_key+in_ok-name+in_ok-insert, else-not-contains_key}

pub loop-row-preserved : goal.loop-row-preserved
loop-row-preserved c = λ q.
    let keys = c.args.keys.now in
    let row = c.loop-row.row in
    let names : List Name = map (λ k. k.now) (take row keys) in
    let nothing : Bor (List ℕ) = record { ref_ptr = (0, 0); now = [] } in
    let key = get_or keys row nothing in
    let all : names ++ key.now ∷ [] ≡ map (λ k. k.now) (take (row + 1) keys) = sym (keys_more keys row nothing c.loop-row-test.true) in
    elim c.if-not-contains_key.branch [
      | then-not-contains_key+in_ok-name+in_ok-insert w ↦
          let named : string_bytes w.in_ok-name.name ≡ key.now = w.in_ok-name.ensures.ok in
          let new : is_some (get_by_text c.loop-row.index (string_bytes w.in_ok-name.name)) ≡ false = ap (λ (k : Name). is_some (get_by_text c.loop-row.index k)) named ∙ sym c.contains_key.ensures ∙ w.if-not-contains_key.true in
          ap (λ (m : BTreeMap (String Global) ℕ). get_by_text m q) w.index-is
          ∙ index_more c.loop-row.index w.insert.new.self names (string_bytes w.in_ok-name.name) row c.loop-row.invariant (keys_taken keys row (omega arith)) new w.in_ok-insert.ensures.updates q
          ∙ ap (λ (ks : List Name). first_row (same_name q) ks) (ap (λ (k : Name). names ++ k ∷ []) named ∙ all)
      | else-not-contains_key w ↦
          ap (λ (m : BTreeMap (String Global) ℕ). get_by_text m q) w.index-is
          ∙ index_same c.loop-row.index names key.now c.loop-row.invariant (sym c.contains_key.ensures ∙ w.if-not-contains_key.false) q
          ∙ ap (λ (ks : List Name). first_row (same_name q) ks) all
    ]
