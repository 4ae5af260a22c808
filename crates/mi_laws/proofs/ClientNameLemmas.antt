-- The names of client rows and of products tell their codes.
use Rattle.std.proofs.Common.{◌≡◌, ℕ, suc, Bool, true, false, List, [], ◌∷◌, ◌++◌, length, refl, sym, ap, arith, ◌∙◌}
use Rattle.std.specs.Prelude.{nat_eq, codes}
use Rattle.std.specs.List.{starts_with}
use Rattle.mi_text.specs.Maps.{same_name}
use Rattle.mi_text.proofs.MapLemmas.{from_same}
use Rattle.mi_text.specs.Guid.{guid_text}
use Rattle.mi_text.proofs.GuidLemmas.{length-guid_text}
use Rattle.mi_base.specs.Names.{client_name, product_name}
use Rattle.mi_model.specs.ClientRows.{the_system}
use Rattle.mi_laws.specs.Clients.{IsCode}
use Rattle.std.proofs.lemmas.List.{append_cancel_left}
use Rattle.mi_laws.proofs.PlainCodeLemmas.{one_code}

behind : (x y a b : List ℕ) → length x ≡ length y → x ++ a ≡ y ++ b → a ≡ b
behind [] [] a b len is = is
behind [] (n ∷ y) a b len is = cc
behind (n ∷ x) [] a b len is = cc
behind (n ∷ x) (k ∷ y) a b len is = let rest : x ++ a ≡ y ++ b = cc in behind x y a b (let same : length x ≡ length y = cc in same) rest

same_length : (x y : List ℕ) → length x ≡ length y → (front : List ℕ) → length (front ++ x) ≡ length (front ++ y)
same_length x y len [] = len
same_length x y len (n ∷ front) = ap suc (same_length x y len front)

front : (x y a b : List ℕ) → length x ≡ length y → x ++ a ≡ y ++ b → x ≡ y
front [] [] a b len is = refl
front [] (n ∷ y) a b len is = cc
front (n ∷ x) [] a b len is = cc
front (n ∷ x) (k ∷ y) a b len is =
    let first : n ≡ k = cc in
    let rest : x ++ a ≡ y ++ b = cc in
    ap (λ (m : ℕ). m ∷ x) first ∙ ap (λ (l : List ℕ). k ∷ l) (front x y a b (let same : length x ≡ length y = cc in same) rest)

pub client_id : (id jd a b : ℕ) → IsCode id → IsCode jd → client_name id a ≡ client_name jd b → id ≡ jd
unfolding client_name
client_id id jd a b fid fjd is =
    one_code id jd fid fjd (front (guid_text id) (guid_text jd) (guid_text a) (guid_text b) (length-guid_text id ∙ sym (length-guid_text jd)) (append_cancel_left (codes "c/") (guid_text id ++ guid_text a) (guid_text jd ++ guid_text b) is))

pub client_code : (id jd a b : ℕ) → IsCode a → IsCode b → client_name id a ≡ client_name jd b → a ≡ b
unfolding client_name
client_code id jd a b fa fb is =
    one_code a b fa fb (behind (codes "c/" ++ guid_text id) (codes "c/" ++ guid_text jd) (guid_text a) (guid_text b) (same_length (guid_text id) (guid_text jd) (length-guid_text id ∙ sym (length-guid_text jd)) (codes "c/")) is)

pub product_of_name : (a b : ℕ) → IsCode a → IsCode b → product_name a ≡ product_name b → a ≡ b
unfolding product_name
product_of_name a b fa fb is = one_code a b fa fb (behind (codes "p/") (codes "p/") (guid_text a) (guid_text b) refl is)

pub begins_client_name : (id product : ℕ) → starts_with nat_eq (client_name id product) (codes "c/") ≡ true
unfolding client_name
begins_client_name id product = refl

pub isnt_true : (b : Bool) → (b ≡ true → ⊥) → b ≡ false
isnt_true true isnt = absurd (isnt refl)
isnt_true false isnt = refl

pub other_client : (id product other : ℕ) → IsCode product → IsCode other → (product ≡ other → ⊥) → (jd : ℕ) → same_name (client_name id product) (client_name jd other) ≡ false
other_client id product other fp fo isnt jd = isnt_true _ (λ same. isnt (client_code id jd product other fp fo (from_same (client_name id product) (client_name jd other) same)))

pub zero_is_code : IsCode the_system
zero_is_code = omega arith
