-- Names and storage-class words, of the program and of the tree.
use Rattle.c_syntax_spec.specs.Expression as tree
use Rattle.c_syntax.specs.declared.expression.Name.{Name}
use Rattle.c_syntax.specs.declared.expression.Storage.{Storage}

abbrev pub name_of : Name → tree.Name
name_of name = record { spelling = name.spelling.now; offset = name.offset }

abbrev pub storage_of : Storage → tree.Storage
storage_of storage = record { is_typedef = storage.is_typedef; is_static = storage.is_static }
