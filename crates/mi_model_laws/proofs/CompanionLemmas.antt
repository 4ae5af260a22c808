-- A companion is written where nothing is there, or the file that it follows is written.
use Rattle.std.proofs.Common.{◌≡◌, ℕ, zero, suc, Bool, true, false, cond, ◌||◌, inl, inr, List, [], ◌∷◌, Option, Some, None, refl, sym, ap, subst, ◌∙◌}
use Rattle.std.specs.Prelude.{◌&&◌, is_some, is_none, length, option_map, option_and_then, if◌then◌else◌}
use Rattle.std.specs.List.{list_any}
use Rattle.std.specs.Option.{option_map_or}
use Rattle.mi_text.specs.Maps.{Name}
use Rattle.mi_base.specs.Spelling.{head_of}
use Rattle.mi_fver.specs.Rules.{replaces_of}
use Rattle.mi_schema.specs.declared.typed_rows.FileRow.{FileRow}
use Rattle.mi_model.specs.World.{World}
use Rattle.mi_schema.specs.TableRows.{file_row_of}
use Rattle.mi_model.specs.Asked.{comes}
use Rattle.mi_model_laws.specs.FileLaws.{EndsIn, CompanionsFollow}
use Rattle.mi_model.specs.FileVersions.{mode_of_row, new_file, product_language, has_same_hash, file_there, is_called_for, leader_of, led_by, is_written}

-- one more step finds no other row
enough : (w : World) (k : ℕ) (r : FileRow) → EndsIn w k r → led_by w (suc (suc k)) r ≡ led_by w (suc k) r
enough w zero r e = ap (λ (o : Option FileRow). r ∷ option_map_or (λ l. led_by w (suc zero) l) o []) e ∙ sym (ap (λ (o : Option FileRow). r ∷ option_map_or (λ l. led_by w zero l) o []) e)
enough w (suc k) r (inl e) = ap (λ (o : Option FileRow). r ∷ option_map_or (λ l. led_by w (suc (suc k)) l) o []) e ∙ sym (ap (λ (o : Option FileRow). r ∷ option_map_or (λ l. led_by w (suc k) l) o []) e)
enough w (suc k) r (inr t) =
    ap (λ (o : Option FileRow). r ∷ option_map_or (λ l. led_by w (suc (suc k)) l) o []) t.1
    ∙ ap (λ (l : List FileRow). r ∷ l) (enough w k t.0 t.2)
    ∙ sym (ap (λ (o : Option FileRow). r ∷ option_map_or (λ l. led_by w (suc k) l) o []) t.1)

pub companions_follow : CompanionsFollow
unfolding is_written
companions_follow w r leader key k size ends companion row =
    let called : is_called_for w r ≡ is_none (file_there w r) = ap (λ (o : Option Name). cond (is_some o) (is_none (file_there w r)) (replaces_of (mode_of_row w r) (option_map head_of (file_there w r)) (new_file r) (product_language w) (option_map_or (has_same_hash w r) (file_there w r) false))) companion in
    let led : leader_of w r ≡ cond (comes w leader.component) (Some leader) None = ap (λ (o : Option Name). option_and_then (λ (f : FileRow). if comes w f.component then Some f else None) (option_and_then (file_row_of w.given.rows) o)) companion ∙ ap (λ (o : Option FileRow). option_and_then (λ (f : FileRow). if comes w f.component then Some f else None) o) row in
    ap (λ (b : Bool). b || list_any (is_called_for w) (option_map_or (λ l. led_by w (length w.given.rows.file) l) (leader_of w r) [])) called
    ∙ ap (λ (o : Option FileRow). is_none (file_there w r) || list_any (is_called_for w) (option_map_or (λ l. led_by w (length w.given.rows.file) l) o [])) led
    ∙ ap (λ (b : Bool). is_none (file_there w r) || b) (by_coming (comes w leader.component))
  where
    same_length : led_by w (length w.given.rows.file) leader ≡ led_by w (suc (length w.given.rows.file)) leader
    same_length = subst (λ n. led_by w n leader ≡ led_by w (suc n) leader) (sym size) (sym (enough w k leader ends))

    by_coming : (b : Bool) → list_any (is_called_for w) (option_map_or (λ l. led_by w (length w.given.rows.file) l) (cond b (Some leader) None) []) ≡ (b && list_any (is_called_for w) (led_by w (suc (length w.given.rows.file)) leader))
    by_coming true = ap (list_any (is_called_for w)) same_length
    by_coming false = refl
