use Rattle.std.proofs.Common.{◌≡◌, List, ℕ, Option, Some, None, sym, ap, subst, ◌∙◌}
use Rattle.std.specs.Prelude.{IfSome, IsOkAnd}
use Rattle.std.specs.Option.{option_copied}
use Rattle.mi_text.specs.Maps.{Map}
use Rattle.mi_text.specs.Next.{next_name}
use Rattle.mi_base.specs.Machine.{machine_of}
use Rattle.mi_base.proofs.ByteLemmas.{text_bytes}
use Rattle.mi_volume.specs.Maps.{IsAbove}
use Rattle.mi_volume.specs.State.{Images}
use Rattle.mi_volume.proofs.Moments.{started, passes, then_passes}
use Rattle.mi_image.specs.Items.{Items, ImageOf}
use Rattle.mi_image.specs.Scan.{ReadUpTo}
use Rattle.mi_image.proofs.LookLemmas.{looks_first, looks_once, looks_then}
use Rattle.mi_image.proofs.RankLemmas.{falls}
use Rattle.mi_image.proofs.ScanLemmas.{begun, image_read}
use Rattle.mi_image.proofs.image.Image.scan.Goals as goal

pub loop-after-init : goal.loop-after-init
loop-after-init g c =
    let start = g.V.Volume.state c.args.vol.now in
    record {
      named = tt;
      read = λ told. subst (ReadUpTo start.held None) (sym c.new-found.ensures) (begun start.held);
      looks = λ told. looks_first start;
      passes = passes start start (Images start) (started start (Images start));
    }

pub loop-after-smaller : goal.loop-after-smaller
loop-after-smaller g c =
    let above : IfSome (Some c.in-Some.name) (IsAbove (option_copied c.as_ref.result)) = subst (λ (o : Option (List ℕ)). IfSome o (IsAbove (option_copied c.as_ref.result))) c.in-Some.is c.in_ok-name.ensures.above in
    let behind : IsAbove c.loop-after.after c.in-Some.name = subst (λ (o : Option (List ℕ)). IsAbove o c.in-Some.name) c.as_ref.ensures.value above in
    falls c.loop-after.after c.in-Some.name c.loop-after.invariant.named c.as_bytes-bytes.ensures.length (text_bytes c.in-Some.name c.as_bytes-bytes.ensures.utf8) behind

pub loop-after-preserved : goal.loop-after-preserved
loop-after-preserved g c =
    let state = g.V.Volume.state in
    let inv = c.loop-after.invariant in
    let passed = passes (state c.loop-after.vol) (state c.next.new.self) (Images (state c.loop-after.vol)) c.in_ok-name.ensures.moments in
    record {
      named = (c.as_bytes-bytes.ensures.length, text_bytes c.in-Some.name c.as_bytes-bytes.ensures.utf8);
      read = λ told.
          let here : (state c.loop-after.vol).held ≡ (state c.args.vol.now).held = (inv.looks told).stays.held in
          let after : (state c.next.new.self).held ≡ (state c.args.vol.now).held = (c.in_ok-name.ensures.stays told).held ∙ here in
          let next : next_name (state c.args.vol.now).held c.loop-after.after ≡ Some c.in-Some.name =
          sym (c.in_ok-name.ensures.value told ∙ ap (next_name (state c.loop-after.vol).held) c.as_ref.ensures.value ∙ ap (λ (held : Map (List ℕ)). next_name held c.loop-after.after) here) ∙ c.in-Some.is in
          subst (λ (held : Map (List ℕ)). next_name held c.loop-after.after ≡ Some c.in-Some.name → ReadUpTo held c.loop-after.after c.loop-after.found → ReadUpTo held (Some c.in-Some.name) c.add_name.new.found) after
          (c.in_ok-add_name.ensures.adds told c.loop-after.after) next (inv.read told);
      looks = λ told.
          let seen = looks_once (state c.loop-after.vol) (state c.next.new.self) (c.in_ok-name.ensures.stays told) (c.in_ok-name.ensures.still told) c.in_ok-name.ensures.moments in
          looks_then (state c.args.vol.now) (state c.next.new.self) (state c.add_name.new.vol) (looks_then (state c.args.vol.now) (state c.loop-after.vol) (state c.next.new.self) (inv.looks told) seen) (c.in_ok-add_name.ensures.looks told);
      passes = then_passes (state c.args.vol.now) (state c.next.new.self) (state c.add_name.new.vol) (then_passes (state c.args.vol.now) (state c.loop-after.vol) (state c.next.new.self) inv.passes passed) c.in_ok-add_name.ensures.passes;
    }

pub returns-clause-image : goal.returns-clause-image
returns-clause-image g c = λ told files.
    let state = g.V.Volume.state in
    let inv = c.loop-after.invariant in
    let here : (state c.loop-after.vol).held ≡ (state c.args.vol.now).held = (inv.looks told).stays.held in
    let next : next_name (state c.args.vol.now).held c.loop-after.after ≡ None =
    sym (c.in_ok-name.ensures.value told ∙ ap (next_name (state c.loop-after.vol).held) c.as_ref.ensures.value ∙ ap (λ (held : Map (List ℕ)). next_name held c.loop-after.after) here) ∙ c.in_default.is in
    subst (λ (found : Items). IsOkAnd (machine_of (state c.args.vol.now).held) (ImageOf (state c.args.vol.now).held files found)) (sym c.in_ok-image.ensures)
    (image_read (state c.args.vol.now).held files c.loop-after.after c.loop-after.found next (inv.read told))
