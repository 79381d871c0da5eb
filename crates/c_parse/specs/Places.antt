-- The places of the definition that the program's are.
use Rattle.c_parse_spec.specs.Initials.{Begun, Nothing, Keyword, Tagged, Place}
use Rattle.c_parse.specs.declared.initial_scan.Begun.{Begun as BegunRow}
use Rattle.c_parse.specs.declared.initial_scan.Begun.TheVariants.{Nothing as a_nothing, Keyword as a_keyword, Tagged as a_tagged}
use Rattle.c_parse.specs.declared.initial_scan.Place.{Place as PlaceRow}

abbrev pub begun_of : BegunRow → Begun
begun_of a_nothing = Nothing
begun_of a_keyword = Keyword
begun_of a_tagged = Tagged

abbrev pub place_of : PlaceRow → Place
place_of place = record { depth = place.depth; in_value = place.in_value; begun = begun_of place.begun }
