use Rattle.std.proofs.Common.{◌≡◌, Some, map, refl, ap, sym, ◌∙◌, ◌+◌, ◌*◌, ◌<◌, ◌^◌, arith, rules}
use Rattle.std.specs.Int.Digits.{number_from_digits}
use Rattle.std.proofs.iter.Serving.{serving}
use Rattle.std.proofs.lemmas.Fn.{fold_same}
use Rattle.std.proofs.lemmas.Iterator.Adapters.{YieldsList-from_rev_slice}
use Rattle.std.proofs.lemmas.Iterator.Consumers.{YieldsList-so_far, YieldsList-turn, fold_from_yields_List}
use Rattle.maps.specs.Images.{perm}
use Rattle.maps.proofs.Arrays.{code_folds, code_room, number_more_of}
use Rattle.maps.proofs.permutations.Permutation.code.Goals as goal

pub fold-requires-clause-callable : goal.fold-requires-clause-callable
fold-requires-clause-callable c = record {
  at = λ xs t q x u ys f st.
      let road = YieldsList-from_rev_slice {s = c.rev.result} c.args.self.word (search rules) in
      let turn = YieldsList-turn road xs t ys (Some x) u x refl st in
      let so_far : q.1 ≡ number_from_digits 8 (map (λ y. y.now) xs) = fold_same _ (λ xs n. n ≡ number_from_digits 8 (map (λ y. y.now) xs)) _ (λ xs n x m g j k.
      let e : m ≡ n * 8 + x.now = search rules in
      (e ∙ (ap (λ n. n * 8 + x.now) j ∙ sym (number_more_of (λ y. y.now) xs x)), refl)) xs 0 q.1 q.0 refl f in
      let room = code_room (perm c.args.self.word c.args.self.belongs) _ _ x.now turn.0 (YieldsList-so_far road xs t ys) turn.1 in
      let r : q.1 * 8 + x.now < 2 ^ 32 = omega (arith, room) in
      grind serving;
}

pub returns : goal.returns
returns c =
    fold_from_yields_List _ (λ n d. n * 8 + d) 0 _ c.fold.ensures.ran (YieldsList-from_rev_slice c.args.self.word (search rules)) (λ a x b q k. search rules) ∙ code_folds (perm c.args.self.word c.args.self.belongs)
