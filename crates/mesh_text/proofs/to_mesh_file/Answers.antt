-- `mesh_text::to_mesh_file` meets its contract. Assumes nothing.
use Rattle.mesh_text.proofs.Writing.{refused_length, refused_line, converted_text}
use Rattle.mesh_text.proofs.to_mesh_file.Goals as goal

pub returns-then-text-gt-MAX_TEXT : goal.returns-then-text-gt-MAX_TEXT
returns-then-text-gt-MAX_TEXT c =
    let p = refused_length c.args.text.now c.args.out.now c.if-text-gt-MAX_TEXT.true in
    record { told = p.0; bytes = p.1 }

pub returns-then-read-ne0 : goal.returns-then-read-ne0
returns-then-read-ne0 c =
    let p = refused_line c.args.text.now c.args.out.now c.if-text-gt-MAX_TEXT.false c.gather-read.ensures c.if-read-ne0.true in
    record { told = p.0; bytes = p.1 }

pub returns : goal.returns
returns c =
    let p = converted_text c.args.text.now c.args.out.now c.if-text-gt-MAX_TEXT.false c.gather-read.ensures c.if-read-ne0.false c.write_file.ensures.told c.write_file.ensures.bytes in
    record { told = p.0; bytes = p.1 }
