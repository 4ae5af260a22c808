-- The files behind the tables, from one number on.
use Rattle.std.proofs.Common.{◌≡◌, ◌∙◌, ℕ, suc, ◌+◌, ◌-◌, ◌<◌, ◌≤◌, List, map, sym, ap, arith}
use Rattle.std.specs.FinMap.{from_entries}
use Rattle.std.specs.List.{range_with_len}
use Rattle.mi_source.specs.Paths.{Files}
use Rattle.mi_model.specs.Selftest.{content}
use Rattle.mi_gen.specs.Tables.{with_file}

-- those with numbers from i on, below n
abbrev pub contents_from : ℕ → ℕ → Files
contents_from i n = from_entries (map content (range_with_len i (n - i)))

pub one_before : (i n : ℕ) → 0 < i → i ≤ n → with_file (contents_from i n) (content (i - 1)) ≡ contents_from (i - 1) n
one_before i n some within =
    let more : n - (i - 1) ≡ suc (n - i) = omega arith in
    let next : (i - 1) + 1 ≡ i = omega arith in
    let made : List ℕ → Files = λ is. from_entries (map content is) in
    ap (λ k. with_file (made (range_with_len k (n - i))) (content (i - 1))) (sym next)
    ∙ ap (λ k. made (range_with_len (i - 1) k)) (sym more)
