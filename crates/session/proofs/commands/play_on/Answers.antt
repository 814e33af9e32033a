use Rattle.std.proofs.Common.{◌≡◌, ℕ, List, [], ◌++◌, map, length, vec_items, vec_len, sym, ap, ◌∙◌, subst, subst₂}
use Rattle.std.proofs.lemmas.List.{length-map}
use Rattle.session.specs.Played.{Plays}
use Rattle.session.specs.Playing.{Rowed}
use Rattle.session.proofs.Running.{begins}
use Rattle.session.proofs.Stepping.{rewritten}
use Rattle.session.proofs.commands.play_on.Goals as goal

pub returns : goal.returns
returns g c = λ rowed.
    let m = g.M.ExchangeMap.meaning c.args.map.now in
    let codes = vec_items c.args.file.now.codes in
    let filled = map m.elements.element codes in
    let rowed' = subst (Rowed m) (sym c.deref.ensures.value) rowed in
    let same : length c.deref_mut.result.now ≡ length c.deref.result.now = c.deref_mut.ensures.len ∙ (c.in_ok-row.ensures.len ∙ (c.len.ensures ∙ sym c.deref.ensures.len)) in
    let f = c.fill.ensures rowed' same in
    let long : length c.fill.new.row ≡ vec_len c.in_ok-row.row = ap length f.1 ∙ (length-map _ m.elements.element ∙ (sym same ∙ c.deref_mut.ensures.len)) in
    let p =
    begins m filled _
    (c.start-bench.ensures.counts.0 ∙ (f.0 ∙ (ap length c.deref.ensures.value ∙ sym (length-map codes m.elements.element))))
    c.start-bench.ensures.counts.1
    (rewritten _ c.fill.new.row _ long ∙ (f.1 ∙ ap (map m.elements.element) c.deref.ensures.value))
    (c.deref_mut-2.ensures.len ∙ c.in_ok-incoming.ensures.len)
    (c.deref_mut-3.ensures.len ∙ c.in_ok-outgoing.ensures.len) in
    let played = c.in_ok-played.ensures filled p in
    let text = played.2 ∙ ap (λ (l : List ℕ). l ++ played.0) c.new-out.ensures.bytes in
    subst₂ (Plays m g.R.Permission.allowed filled []) c.deref-2.ensures.value (sym text) played.1
