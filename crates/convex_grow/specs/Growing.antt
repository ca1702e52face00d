-- What growing a region leaves in its buffers: after one step (`Stepped`), and after all (`Grown`),
-- the buffers hold the zipper of convex/specs/Zipper.antt; so after the first triangle (`Started`)
-- and after the loop (`Ran`). Assumes nothing.
use Rattle.std.specs.Prelude.{◌≡◌, Bool, List, ℕ, ◌+◌, ◌*◌, ◌-◌, ◌≤◌, ◌<◌, length, ℤ}
use Rattle.mesh.specs.Mesh.{Mesh, triangle_at}
use Rattle.convex.specs.Zipper.{Zipper, start_z, step_z, grow_z, zipped}
use Rattle.convex_ring.specs.declared.Progress.{Progress}
use Rattle.convex_ring.specs.Buffers.{slot_at, pending_of, free, Marked, Holds, Sound}

-- ---- one step

-- the counts after the top corner was done
abbrev pub moved_by : Progress → Progress
moved_by p = record { pending = p.pending - 1; done = p.done - 1; last = p.last }

-- the counts after a corner was put on top
abbrev pub pushed_by : Progress → Progress
pushed_by p = record { pending = p.pending + 1; done = p.done; last = p.done }

pub record Stepped (size : ℕ) (m : Mesh) (cs : List (List ℤ)) (es : List (List ℕ)) (flags : List Bool) (p : Progress) (cs' : List (List ℤ)) (es' : List (List ℕ)) (flags' : List Bool) (p' : Progress) : Type 0 where
  pub sound : Sound size m cs' es' flags' p'
  pub less : p'.pending + 2 * free flags' < p.pending + 2 * free flags
  pub kept : p'.pending + free flags' + p.done ≡ p.pending + free flags + p'.done
  pub holds : (seen : List ℕ) (z : Zipper) → Holds size cs es flags p seen z → Holds size cs' es' flags' p' seen (step_z m seen (slot_at cs es (p.pending - 1)) (pending_of cs es (p.pending - 1)) z)

-- ---- a region, from its first triangle until nothing is pending

pub record Started (size : ℕ) (m : Mesh) (k : ℕ) (flags : List Bool) (cs' : List (List ℤ)) (es' : List (List ℕ)) (flags' : List Bool) (p' : Progress) : Type 0 where
  pub sound : Sound size m cs' es' flags' p'
  pub enough : p'.pending + 2 * free flags' ≤ 2 * length m + 3
  pub kept : p'.pending + free flags' + size ≡ 2 + free flags + p'.done
  pub holds : (seen : List ℕ) → Marked flags seen → Holds size cs' es' flags' p' seen (start_z k (triangle_at m k))

-- nothing is pending any more; as many steps of the zipper as there are pending corners and twice
-- the free triangles, or more, give the same
pub record Ran (size : ℕ) (m : Mesh) (cs : List (List ℤ)) (es : List (List ℕ)) (flags : List Bool) (p : Progress) (cs' : List (List ℤ)) (es' : List (List ℕ)) (flags' : List Bool) (p' : Progress) : Type 0 where
  pub sound : Sound size m cs' es' flags' p'
  pub empty : p'.pending ≡ 0
  pub kept : p'.pending + free flags' + p.done ≡ p.pending + free flags + p'.done
  pub holds : (seen : List ℕ) (z : Zipper) (n : ℕ) → Holds size cs es flags p seen z → p.pending + 2 * free flags ≤ n → Holds size cs' es' flags' p' seen (grow_z n m seen z)

pub record Grown (size : ℕ) (m : Mesh) (k : ℕ) (flags : List Bool) (cs' : List (List ℤ)) (es' : List (List ℕ)) (flags' : List Bool) (p' : Progress) : Type 0 where
  pub sound : Sound size m cs' es' flags' p'
  pub empty : p'.pending ≡ 0
  pub kept : free flags' + size ≡ 2 + free flags + p'.done
  pub holds : (seen : List ℕ) → Marked flags seen → Holds size cs' es' flags' p' seen (zipped m seen k)
