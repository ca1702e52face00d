-- `mesh_neighbors::side_fault` meets its contract: the cases of Side. Assumes nothing.
use native.Mathlib.Omega.{arith}
use Rattle.plane.specs.Machine.{point}
use Rattle.mesh_neighbors.proofs.Side.{side_none, side_itself, side_past, side_second, side_third, side_back}
use Rattle.mesh_neighbors.proofs.side_fault.Goals as goal
use Rattle.mesh_neighbors.proofs.side_fault.Goals.{then-n-k-via-then-n-k, then-n-k-via-else-n-k+then-n-mesh, then-o-n-via-then-o-n, then-o-n-via-else-o-n+then-p-n}

pub returns-then-n-eq-NIL_INDEX : goal.returns-then-n-eq-NIL_INDEX
returns-then-n-eq-NIL_INDEX c = side_none c.args.mesh.now c.args.k c.args.n c.args.o c.args.p (point c.args.a) (point c.args.b) c.if-n-eq-NIL_INDEX.true

pub returns-then-n-k : goal.returns-then-n-k
returns-then-n-k c = elim c.then-n-k.branch [
  | then-n-k-via-then-n-k w ↦ side_itself c.args.mesh.now c.args.k c.args.n c.args.o c.args.p (point c.args.a) (point c.args.b) c.if-n-eq-NIL_INDEX.false w.if-n-k.true
  | then-n-k-via-else-n-k+then-n-mesh w ↦ side_past c.args.mesh.now c.args.k c.args.n c.args.o c.args.p (point c.args.a) (point c.args.b) c.if-n-eq-NIL_INDEX.false w.if-n-k.false (omega (arith, w.if-n-mesh.true))
]

pub returns-then-o-n : goal.returns-then-o-n
returns-then-o-n c = elim c.then-o-n.branch [
  | then-o-n-via-then-o-n w ↦ side_second c.args.mesh.now c.args.k c.args.n c.args.o c.args.p (point c.args.a) (point c.args.b) c.if-n-eq-NIL_INDEX.false c.if-n-k.false c.if-n-mesh.false w.if-o-n.true
  | then-o-n-via-else-o-n+then-p-n w ↦ side_third c.args.mesh.now c.args.k c.args.n c.args.o c.args.p (point c.args.a) (point c.args.b) c.if-n-eq-NIL_INDEX.false c.if-n-k.false c.if-n-mesh.false w.if-o-n.false w.if-p-n.true
]

pub returns : goal.returns
returns c = side_back c.args.mesh.now c.args.k c.args.n c.args.o c.args.p (point c.args.a) (point c.args.b) c.if-n-eq-NIL_INDEX.false c.if-n-k.false c.if-n-mesh.false c.if-o-n.false c.if-p-n.false c.back_fault.ensures
