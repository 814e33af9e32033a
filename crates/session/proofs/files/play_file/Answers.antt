use Rattle.std.proofs.Common.{false, IfOk, vec_items, string_bytes, sym, ap, subst}
use Rattle.exchange.specs.Meaning.{Meaning}
use Rattle.maps.specs.Phases.{phase_map}
use Rattle.rowfile.specs.Reading.{file_of}
use Rattle.session.specs.Played.{PlaysOn, seen_from}
use Rattle.session.specs.Playing.{Rowed}
use Rattle.session.proofs.Named.{aff_lawful, aff_row, cap_row, made, perm_row, phase_lawful, phase_row, same_affine}
use Rattle.session.proofs.files.play_file.Goals as goal

pub play_seen-requires : goal.play_seen-requires
play_seen-requires c = cap_row _ c.requires c.in-Cap.is

pub play_seen-requires-in-Perm : goal.play_seen-requires-in-Perm
play_seen-requires-in-Perm c = perm_row _ c.requires c.in-Perm.is

pub unwrap-map-requires : goal.unwrap-map-requires
unwrap-map-requires c = made _ _ c.new.result c.new.ensures.makes (aff_lawful _ c.requires _ _ _ _ _ c.in-Aff.is)

pub play_seen-requires-in-Aff : goal.play_seen-requires-in-Aff
play_seen-requires-in-Aff c =
    let p = rw c.unwrap-map.ensures at c.new.ensures.makes in
    subst (λ (m : Meaning _). Rowed m (vec_items c.args.file.now.codes)) (sym (same_affine p.1.0 p.1.1 p.1.2 p.1.3 p.1.4)) (aff_row _ c.requires _ _ _ _ _ c.in-Aff.is)

pub unwrap-map-requires-in-Phase : goal.unwrap-map-requires-in-Phase
unwrap-map-requires-in-Phase c = made _ _ c.new-in-Phase.result c.new-in-Phase.ensures (phase_lawful _ c.requires _ c.in-Phase.is)

pub play_seen-requires-in-Phase : goal.play_seen-requires-in-Phase
play_seen-requires-in-Phase c =
    let p = rw c.unwrap-map-in-Phase.ensures at c.new-in-Phase.ensures in
    subst (λ (m : Meaning _). Rowed m (vec_items c.args.file.now.codes)) (sym (ap phase_map p.1)) (phase_row _ c.requires _ c.in-Phase.is)

pub returns-in-Aff : goal.returns-in-Aff
returns-in-Aff c =
    let p = rw c.unwrap-map.ensures at c.new.ensures.makes in
    let f = file_of c.args.file.now in
    rw c.in-Aff.is
    (subst (λ (m : Meaning _). IfOk c.play_seen-in-Aff.result (λ s. PlaysOn (seen_from f.heading.side m) false f (string_bytes s))) (same_affine p.1.0 p.1.1 p.1.2 p.1.3 p.1.4) c.play_seen-in-Aff.ensures)
