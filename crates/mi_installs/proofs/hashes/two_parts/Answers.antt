use Rattle.std.proofs.Common.{◌≡◌, ℕ, List, [], ◌∷◌, get_or, ap, rules, ◌∙◌}
use Rattle.std.specs.Int.{w32, to_le_bytes}
use Rattle.mi_rows.specs.Values.{bits_of}
use Rattle.mi_installs.proofs.hashes.two_parts.Goals as goal

-- the four bytes of each of two parts
abbrev eight : List ℕ → List ℕ → List ℕ
eight a b = get_or a 0 0 ∷ get_or a 1 0 ∷ get_or a 2 0 ∷ get_or a 3 0 ∷ get_or b 0 0 ∷ get_or b 1 0 ∷ get_or b 2 0 ∷ get_or b 3 0 ∷ []

pub returns : goal.returns
returns c =
    let a : c.to_le_bytes-a.result ≡ to_le_bytes w32 (bits_of c.args.first) = search rules in
    let b : c.to_le_bytes-b.result ≡ to_le_bytes w32 (bits_of c.args.second) = search rules in
    ap (λ (x : List ℕ). eight x c.to_le_bytes-b.result) a ∙ ap (λ (x : List ℕ). eight (to_le_bytes w32 (bits_of c.args.first)) x) b
