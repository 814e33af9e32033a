-- Two tests at once. Assumes nothing.
use Rattle.std.proofs.Common.{Bool, true, false, ◌&&◌, T}

pub T_both : (a b : Bool) → T a → T b → T (a && b)
T_both true b s t = t
T_both false b s t = s

pub T_parts : (a b : Bool) → T (a && b) → T a × T b
T_parts true b t = (tt, t)
T_parts false b t = absurd t
