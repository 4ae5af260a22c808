use Rattle.std.proofs.Common.{◌≡◌, ℕ, Option, Some, None, IfOk, sym, ap, subst, ◌∙◌}
use Rattle.std.specs.Prelude.{option_and_then}
use Rattle.mi_image.specs.Stated.{further, text_end, shortcut_end}
use Rattle.mi_image.proofs.WindowLemmas.{shortcut_end_is, icon_end, show_end}
use Rattle.mi_image.proofs.stated.shortcut_end.Goals as goal

pub returns-in_default-clause-value : goal.returns-in_default-clause-value
returns-in_default-clause-value g c = λ told whole shows.
    let now = c.in_ok-description.ensures.shows told whole shows in
    sym (shortcut_end_is whole c.texts_end.new.window.size None now.long (sym c.in_default.is ∙ c.in_ok-description.ensures.value told whole shows))

pub returns-in_default-further-clause-value : goal.returns-in_default-further-clause-value
returns-in_default-further-clause-value g c = λ told whole shows.
    let now = c.in_ok-description.ensures.shows told whole shows in
    sym (shortcut_end_is whole c.texts_end.new.window.size (Some c.in-Some.description) now.long (sym c.in-Some.is ∙ c.in_ok-description.ensures.value told whole shows)
    ∙ ap (option_and_then (icon_end whole c.texts_end.new.window.size)) (sym c.further.ensures ∙ c.in_default-further.is))

pub returns-in_default-2-clause-value : goal.returns-in_default-2-clause-value
returns-in_default-2-clause-value g c = λ told whole shows.
    let size = c.texts_end.new.window.size in
    let now = c.in_ok-description.ensures.shows told whole shows in
    let icon = c.in_ok-icon.ensures.value told whole now in
    sym (shortcut_end_is whole size (Some c.in-Some.description) now.long (sym c.in-Some.is ∙ c.in_ok-description.ensures.value told whole shows)
    ∙ ap (option_and_then (icon_end whole size)) (sym c.further.ensures ∙ c.in-Some-further.is)
    ∙ ap (option_and_then (show_end whole size)) (sym icon ∙ c.in_default-2.is))

pub returns-in_default-further-2-clause-value : goal.returns-in_default-further-2-clause-value
returns-in_default-further-2-clause-value g c = λ told whole shows.
    let size = c.text_end.new.window.size in
    let first = c.in_ok-description.ensures.shows told whole shows in
    let now = c.in_ok-icon.ensures.shows told whole first in
    let icon = c.in_ok-icon.ensures.value told whole first in
    sym (shortcut_end_is whole size (Some c.in-Some.description) now.long (sym c.in-Some.is ∙ c.in_ok-description.ensures.value told whole shows)
    ∙ ap (option_and_then (icon_end whole size)) (ap (λ (s : ℕ). further s c.in-Some.description 2) (sym now.long ∙ first.long) ∙ sym c.further.ensures ∙ c.in-Some-further.is)
    ∙ ap (option_and_then (show_end whole size)) (sym icon ∙ c.in-Some-2.is)
    ∙ ap (option_and_then (λ show. text_end whole show)) (sym c.further-2.ensures ∙ c.in_default-further-2.is))

pub returns-clause-value : goal.returns-clause-value
returns-clause-value g c = λ told whole shows.
    let size = c.text_end.new.window.size in
    let first = c.in_ok-description.ensures.shows told whole shows in
    let now = c.in_ok-icon.ensures.shows told whole first in
    let icon = c.in_ok-icon.ensures.value told whole first in
    let is : shortcut_end whole ≡ text_end whole c.in-Some-further-2.show =
    shortcut_end_is whole size (Some c.in-Some.description) now.long (sym c.in-Some.is ∙ c.in_ok-description.ensures.value told whole shows)
    ∙ ap (option_and_then (icon_end whole size)) (ap (λ (s : ℕ). further s c.in-Some.description 2) (sym now.long ∙ first.long) ∙ sym c.further.ensures ∙ c.in-Some-further.is)
    ∙ ap (option_and_then (show_end whole size)) (sym icon ∙ c.in-Some-2.is)
    ∙ ap (option_and_then (λ show. text_end whole show)) (sym c.further-2.ensures ∙ c.in-Some-further-2.is) in
    subst (λ (e : Option ℕ). IfOk c.text_end-2.result (λ end. end ≡ e)) (sym is) (c.text_end-2.ensures.value told whole now)
