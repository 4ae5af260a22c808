-- What is seen of a record through a window.
use Rattle.std.proofs.Common.{◌≡◌, ℕ, ◌+◌, ◌-◌, ◌≤◌, List, length, take, drop, Option, sym, ap, ◌∙◌, arith}
use Rattle.std.specs.Prelude.{option_and_then}
use Rattle.std.specs.Int.{w16, w32}
use Rattle.std.proofs.lemmas.List.{drop-take, drop-drop, take-take}
use Rattle.mi_image.specs.Stated.{byte_of, number_of, byte_in, number_in, further, text_end, texts_end, list_end, kind_payload_end, payload_end, shortcut_end, product_end}

-- the bytes at a place that a window reaches to
seen : (whole : List ℕ) (from k want : ℕ) → k + want ≤ 65536 → take want (drop k (take 65536 (drop from whole))) ≡ take want (drop (from + k) whole)
seen whole from k want within =
    let rest : List ℕ = drop from whole in
    let split : 65536 ≡ k + (65536 - k) = omega (arith, within) in
    let inside : want ≤ 65536 - k = omega (arith, within) in
    ap (λ (n : ℕ). take want (drop k (take n (drop from whole)))) split
    ∙ ap (take want) (drop-take k (65536 - k) (drop from whole))
    ∙ take-take want (65536 - k) (drop k (drop from whole)) inside
    ∙ ap (take want) (drop-drop k from whole)

pub seen_at : (whole bytes : List ℕ) (from at want : ℕ) → bytes ≡ take 65536 (drop from whole) → from ≤ at → at - from ≤ 65536 - want → want ≤ 65536 → take want (drop (at - from) bytes) ≡ take want (drop at whole)
seen_at whole bytes from at want is low high most =
    let place : from + (at - from) ≡ at = omega (arith, low) in
    ap (λ (b : List ℕ). take want (drop (at - from) b)) is
    ∙ seen whole from (at - from) want (omega (arith, high, most))
    ∙ ap (λ (n : ℕ). take want (drop n whole)) place

-- a window that begins at the place
pub seen_first : (whole bytes : List ℕ) (from at want : ℕ) → bytes ≡ take 65536 (drop from whole) → from ≡ at → want ≤ 65536 → take want (drop (at - from) bytes) ≡ take want (drop at whole)
seen_first whole bytes from at want is same most = seen_at whole bytes from at want is (omega (arith, same)) (omega (arith, same)) most

-- ---- by what is seen there

pub text_end_is : (whole front : List ℕ) (at size : ℕ) (n : Option ℕ) → front ≡ take 4 (drop at whole) → length whole ≡ size → n ≡ number_of w32 front → text_end whole at ≡ option_and_then (λ k. further size at (4 + k)) n
unfolding text_end
text_end_is whole front at size n is long told =
    ap (λ (s : ℕ). option_and_then (λ k. further s at (4 + k)) (number_in w32 whole at)) long
    ∙ ap (option_and_then (λ k. further size at (4 + k))) (ap (number_of w32) (sym is) ∙ sym told)

pub list_end_is : (whole front : List ℕ) (at size : ℕ) (n : Option ℕ) → front ≡ take 2 (drop at whole) → length whole ≡ size → n ≡ number_of w16 front → list_end whole at ≡ option_and_then (λ k. option_and_then (λ first. texts_end whole first k) (further size at 2)) n
unfolding list_end
list_end_is whole front at size n is long told =
    ap (λ (s : ℕ). option_and_then (λ k. option_and_then (λ first. texts_end whole first k) (further s at 2)) (number_in w16 whole at)) long
    ∙ ap (option_and_then (λ k. option_and_then (λ first. texts_end whole first k) (further size at 2))) (ap (number_of w16) (sym is) ∙ sym told)

pub payload_end_is : (whole front : List ℕ) (at size : ℕ) (kind : Option ℕ) → front ≡ take 1 (drop at whole) → length whole ≡ size → kind ≡ byte_of front → payload_end whole at ≡ option_and_then (λ k. option_and_then (λ first. kind_payload_end whole first k) (further size at 1)) kind
unfolding payload_end
payload_end_is whole front at size kind is long told =
    ap (λ (s : ℕ). option_and_then (λ k. option_and_then (λ first. kind_payload_end whole first k) (further s at 1)) (byte_in whole at)) long
    ∙ ap (option_and_then (λ k. option_and_then (λ first. kind_payload_end whole first k) (further size at 1))) (ap byte_of (sym is) ∙ sym told)

pub product_end_is : (whole : List ℕ) (size : ℕ) (name : Option ℕ) → length whole ≡ size → name ≡ text_end whole 0 → product_end whole ≡ option_and_then (λ at. option_and_then (λ language. list_end whole language) (further size at 10)) name
unfolding product_end
product_end_is whole size name long is =
    ap (λ (s : ℕ). option_and_then (λ at. option_and_then (λ language. list_end whole language) (further s at 10)) (text_end whole 0)) long
    ∙ ap (option_and_then (λ at. option_and_then (λ language. list_end whole language) (further size at 10))) (sym is)

-- behind the icon of a shortcut, and behind its hot key
abbrev pub show_end : List ℕ → ℕ → ℕ → Option ℕ
show_end whole size icon = option_and_then (λ show. text_end whole show) (further size icon 4)

abbrev pub icon_end : List ℕ → ℕ → ℕ → Option ℕ
icon_end whole size hot_key = option_and_then (show_end whole size) (text_end whole hot_key)

pub shortcut_end_is : (whole : List ℕ) (size : ℕ) (description : Option ℕ) → length whole ≡ size → description ≡ texts_end whole 0 4 → shortcut_end whole ≡ option_and_then (λ at. option_and_then (icon_end whole size) (further size at 2)) description
unfolding shortcut_end
shortcut_end_is whole size description long is =
    ap (λ (s : ℕ). option_and_then (λ at. option_and_then (icon_end whole s) (further s at 2)) (texts_end whole 0 4)) long
    ∙ ap (option_and_then (λ at. option_and_then (icon_end whole size) (further size at 2))) (sym is)
