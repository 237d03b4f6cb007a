use Rattle.std.proofs.Common.{◌≡◌, ◌∙◌, ap, refl, replicate, ℕ, zero, suc, map, List, ◌∷◌}
use Rattle.std.proofs.Math.Nat.{le_antisymm}
use Rattle.vs_pool.specs.Buffers.{Buffer, Reserve, emptied}
use Rattle.vs_pool.proofs.pool.Pool.new.Goals as goal

sizes : (n size : ℕ) → map (λ (b : Buffer). b.size) (replicate n (emptied size)) ≡ replicate n size
sizes zero size = refl
sizes (suc n) size = ap (λ (more : List ℕ). size ∷ more) (sizes n size)

pub returns : goal.returns
returns c =
    let all : c.loop-i._i ≡ c.args.count = le_antisymm c.loop-i.auto._i-end c.loop-i-test.false in
    ap (λ (free : List ℕ). (let p : Reserve = record { count = c.args.count; free = free } in p))
    (ap (λ (bufs : List Buffer). map (λ (b : Buffer). b.size) bufs) c.loop-i.invariant.made ∙ sizes c.loop-i._i c.args.size ∙ ap (λ n. replicate n c.args.size) all)
