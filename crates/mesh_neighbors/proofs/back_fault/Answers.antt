-- `mesh_neighbors::back_fault` meets its contract: the laws of Back. Assumes nothing.
use Rattle.plane.specs.Machine.{point}
use Rattle.mesh_neighbors.proofs.Back.{first_second, first_third, first_alone, second_third, second_alone, third_alone, no_side}
use Rattle.mesh_neighbors.proofs.back_fault.Goals as goal

pub returns-in-true-false-false : goal.returns-in-true-false-false
returns-in-true-false-false c = first_alone c.args.mesh.now c.args.k c.requires (point c.args.a) (point c.args.b)
    c.neighbor_of.ensures c.neighbor_of-2.ensures c.neighbor_of-3.ensures c.in-true-false-false.is-0 c.in-true-false-false.is-1 c.in-true-false-false.is-2
    c.vertex_of.ensures c.vertex_of-in-true-false-false.ensures c.edge_fault.ensures

pub returns-in-false-true-false : goal.returns-in-false-true-false
returns-in-false-true-false c = second_alone c.args.mesh.now c.args.k c.requires (point c.args.a) (point c.args.b)
    c.neighbor_of.ensures c.neighbor_of-2.ensures c.neighbor_of-3.ensures c.in-false-true-false.is-0 c.in-false-true-false.is-1 c.in-false-true-false.is-2
    c.vertex_of-in-false-true-false.ensures c.vertex_of-in-false-true-false-2.ensures c.edge_fault-in-false-true-false.ensures

pub returns-in-false-false-true : goal.returns-in-false-false-true
returns-in-false-false-true c = third_alone c.args.mesh.now c.args.k c.requires (point c.args.a) (point c.args.b)
    c.neighbor_of.ensures c.neighbor_of-2.ensures c.neighbor_of-3.ensures c.in-false-false-true.is-0 c.in-false-false-true.is-1 c.in-false-false-true.is-2
    c.vertex_of-in-false-false-true.ensures c.vertex_of-in-false-false-true-2.ensures c.edge_fault-in-false-false-true.ensures

pub returns-in_default : goal.returns-in_default
returns-in_default c = first_second c.args.mesh.now c.args.k c.requires (point c.args.a) (point c.args.b)
    c.neighbor_of.ensures c.neighbor_of-2.ensures c.neighbor_of-3.ensures c.in_default.is-0 c.in_default.is-1

pub returns-in_default-2 : goal.returns-in_default-2
returns-in_default-2 c = first_third c.args.mesh.now c.args.k c.requires (point c.args.a) (point c.args.b)
    c.neighbor_of.ensures c.neighbor_of-2.ensures c.neighbor_of-3.ensures c.in_default.is-0 c.in_default.is-1 c.in_default.is-2

pub returns-in_default-3 : goal.returns-in_default-3
returns-in_default-3 c = second_third c.args.mesh.now c.args.k c.requires (point c.args.a) (point c.args.b)
    c.neighbor_of.ensures c.neighbor_of-2.ensures c.neighbor_of-3.ensures c.in_default.is-0 c.in_default.is-1 c.in_default.is-2

pub returns-in_default-4 : goal.returns-in_default-4
returns-in_default-4 c = no_side c.args.mesh.now c.args.k c.requires (point c.args.a) (point c.args.b)
    c.neighbor_of.ensures c.neighbor_of-2.ensures c.neighbor_of-3.ensures c.in_default.is-0 c.in_default.is-1 c.in_default.is-2
