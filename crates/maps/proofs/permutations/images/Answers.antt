use Rattle.std.proofs.Common.{◌*◌, ◌/◌, ◌%◌, ◌^◌, rules}
use Rattle.maps.specs.Permutations.{eight}
use Rattle.maps.proofs.Arrays.{eight_made}
use Rattle.maps.proofs.permutations.images.Goals as goal

pub returns : goal.returns
unfolding eight
returns c = eight_made (λ i. c.args.n / 2 ^ (3 * i) % 8) (λ i y q k. search rules) _ c.from_fn.ensures.items
