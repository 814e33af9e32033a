use Rattle.std.proofs.Common.{◌+◌, ◌-◌, ap, ◌∙◌, rules}
use Rattle.maps.specs.Affine.{line}
use Rattle.maps.specs.AffineLaws.{inverse_same, line_back, unline_is_back}
use Rattle.std.proofs.lemmas.Nat.{mul-mod_second}
use Rattle.maps.proofs.affine.Line.back.Goals as goal

pub returns : goal.returns
returns c =
    let l = c.args.self in
    let m = l.modulus in
    let y = c.args.y in
    let k = y + (m - l.shift) in
    let inv = inverse_same m l.slope l.inverse l.turns in
    let e = mul-mod_second l.inverse k m ∙ unline_is_back m l.slope l.shift l.inverse l.shift_low inv y c.requires in
    record { value = e; low = search rules; found = ap (line m l.slope l.shift) e ∙ line_back m l.slope l.shift l.inverse l.shift_low inv y c.requires }
