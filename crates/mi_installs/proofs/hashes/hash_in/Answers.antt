use Rattle.std.proofs.Common.{◌≡◌, ℕ, ℤ, List, [], ◌∷◌, get_or, ap, rules, arith, ◌∙◌}
use Rattle.std.specs.Int.{w32, to_le_bytes}
use Rattle.std.specs.List.{flat_map}
use Rattle.std.proofs.lemmas.Int.{to_z-of_z}
use Rattle.mi_rows.specs.Values.{bits_of}
use Rattle.mi_installs.proofs.hashes.hash_in.Goals as goal

-- the eight bytes of each of two halves
abbrev sixteen : List ℕ → List ℕ → List ℕ
sixteen a b =
    get_or a 0 0 ∷ get_or a 1 0 ∷ get_or a 2 0 ∷ get_or a 3 0 ∷ get_or a 4 0 ∷ get_or a 5 0 ∷ get_or a 6 0 ∷ get_or a 7 0
    ∷ get_or b 0 0 ∷ get_or b 1 0 ∷ get_or b 2 0 ∷ get_or b 3 0 ∷ get_or b 4 0 ∷ get_or b 5 0 ∷ get_or b 6 0 ∷ get_or b 7 0 ∷ []

abbrev parts : ℤ → ℤ → List ℕ
parts first second = flat_map (λ (part : ℤ). to_le_bytes w32 (bits_of part)) (first ∷ second ∷ [])

pub returns : goal.returns
returns c =
    let a : c.two_parts-a.result ≡ parts c.args.row.now.hash_part1 c.args.row.now.hash_part2 = first_of (search rules, grind (arith, to_z-of_z, c.two_parts-a.ensures)) in
    let b : c.two_parts-b.result ≡ parts c.args.row.now.hash_part3 c.args.row.now.hash_part4 = first_of (search rules, grind (arith, to_z-of_z, c.two_parts-b.ensures)) in
    ap (λ (x : List ℕ). sixteen x c.two_parts-b.result) a ∙ ap (λ (x : List ℕ). sixteen (parts c.args.row.now.hash_part1 c.args.row.now.hash_part2) x) b
