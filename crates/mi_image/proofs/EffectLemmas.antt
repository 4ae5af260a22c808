-- What changes of an image leave of the machine that it stands for.
use Rattle.std.proofs.Common.{◌≡◌, ℕ, true, false, cond, List, length, Option, Some, None, refl, sym, ap, subst, ◌∙◌}
use Rattle.std.specs.Prelude.{option_map}
use Rattle.std.specs.FinMap.{get}
use Rattle.mi_text.specs.Maps.{Name, Map, same_name, set_to, map_values}
use Rattle.mi_text.proofs.MapLemmas.{get-set_to}
use Rattle.mi_changes.proofs.TouchLemmas.{map_values-set_to}
use Rattle.mi_base.specs.declared.entry.FileHead.{FileHead}
use Rattle.mi_base.specs.declared.entry.Entry.{Entry}
use Rattle.mi_image.specs.declared.item.Content.{Content}
use Rattle.mi_image.specs.declared.item.Item.{Item}
use Rattle.mi_image.specs.declared.item.Item.TheVariants.{Head, Whole}
use Rattle.mi_image.specs.Items.{Items, content_bytes, bytes_of_file, entry_over, machine_over, HasLength, AreThere, AreRight, MayStand, HeadMayStand}
use Rattle.mi_image.specs.Lookups.{length_in}
use Rattle.mi_image.proofs.LookupLemmas.{get_over}

-- one name is set
pub over_set : (held files : Map (List ℕ)) (items new : Items) (n : Name) (o : Option Item) → new ≡ set_to items n o → machine_over held files new ≡ set_to (machine_over held files items) n (option_map (entry_over held files) o)
unfolding machine_over
over_set held files items new n o is = ap (map_values (entry_over held files)) is ∙ map_values-set_to (entry_over held files) items n o

pub there_set : (held files : Map (List ℕ)) (items new : Items) (n : Name) (o : Option Item) → new ≡ set_to items n o → ((i : Item) → o ≡ Some i → HasLength held files i) → AreThere held files items → AreThere held files new
there_set held files items new n o is long there q i at =
    elim (same_name q n) as (λ b. same_name q n ≡ b → cond b o (get items q) ≡ Some i → HasLength held files i) [
      | true ↦ λ e h. long i h
      | false ↦ λ e h. there q i h
    ] refl (sym (get-set_to items n o q) ∙ ap (λ (m : Items). get m q) (sym is) ∙ at)

pub there_put : (held files : Map (List ℕ)) (items new : Items) (n : Name) (i : Item) → new ≡ set_to items n (Some i) → HasLength held files i → AreThere held files items → AreThere held files new
there_put held files items new n i is long = there_set held files items new n (Some i) is (λ j same. let here : i ≡ j = cc in subst (HasLength held files) here long)

pub there_taken : (held files : Map (List ℕ)) (items new : Items) (n : Name) → new ≡ set_to items n None → AreThere held files items → AreThere held files new
there_taken held files items new n is = there_set held files items new n None is (λ j same. absurd cc)

pub head_stands : (q : Name) (h : FileHead) (content : Content) → HeadMayStand q h → MayStand q (Head h content)
head_stands q h content may = record { named = may.named; right = may.right; split = refl }

-- ---- the content of a file that is there

pub content_there : (held files : Map (List ℕ)) (items : Items) (q : Name) (h : FileHead) (content : Content) → AreRight items → get items q ≡ Some (Head h content) → content_bytes held files q content ≡ bytes_of_file (get (machine_over held files items) q)
content_there held files items q h content right at =
    ap (λ (n : Name). content_bytes held files n content) (sym (right q (Head h content) at).named)
    ∙ sym (ap bytes_of_file (get_over held files items q ∙ ap (option_map (entry_over held files)) at))

-- as many bytes as the head states
pub length_there : (held files : Map (List ℕ)) (items : Items) (q : Name) (n : ℕ) → length_in (get items q) ≡ Some n → AreThere held files items → length (bytes_of_file (get (machine_over held files items) q)) ≡ n
length_there held files items q n long there = ap (λ (o : Option Entry). length (bytes_of_file o)) (get_over held files items q) ∙ by_item (get items q) refl long
  where
    by_item : (o : Option Item) → get items q ≡ o → length_in o ≡ Some n → length (bytes_of_file (option_map (entry_over held files) o)) ≡ n
    by_item None at is = absurd cc
    by_item (Some (Head h content)) at is = let same : h.length ≡ n = cc in there q (Head h content) at ∙ same
    by_item (Some (Whole e)) at is = absurd cc
