use Rattle.std.proofs.Common.{◌≡◌, arith, length, map}
use Rattle.std.proofs.lemmas.List.{length-map}
use Rattle.elf_read.specs.Values.{segment_of, symbol_of}
use Rattle.elf_make.proofs.writer.lay_out.Goals as goal

pub returns : goal.returns
returns c =
    let n : length (map segment_of c.args.parts.now.segments.now) ≡ length c.args.parts.now.segments.now = length-map c.args.parts.now.segments.now segment_of in
    let m : length (map symbol_of c.args.parts.now.symbols.now) ≡ length c.args.parts.now.symbols.now = length-map c.args.parts.now.symbols.now symbol_of in
    record {
      programs_are = omega arith;
      contents_are = omega arith;
      table_is = omega (arith, c.contents_length.ensures);
      table_size_is = omega arith;
      strings_are = omega (arith, c.contents_length.ensures);
      strings_size_is = omega (arith, c.names_length-strings_size.ensures);
      padding_is = omega (arith, c.contents_length.ensures, c.names_length-strings_size.ensures);
      sections_are = omega (arith, c.contents_length.ensures, c.names_length-strings_size.ensures);
    }
