-- What is shown of a function, as the definitions see it.
use Rattle.report_text_spec.specs.Verdict as spec
use Rattle.report_text.specs.declared.showing.Shown.{Shown}

abbrev pub shown_of : Shown → spec.Shown
shown_of shown = record {
  name = shown.name;
  entry = shown.entry;
  size = shown.size;
  stack = shown.stack;
  words = shown.words.items;
  params = shown.params;
  loops = shown.loops;
  calls = shown.calls;
}
