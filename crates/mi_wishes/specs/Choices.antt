-- What becomes of features, as the program tells it. (Feature Table.)
use Rattle.std.specs.Prelude.{Option, option_map}
use Rattle.mi_model.specs.World as world
use Rattle.mi_wishes.specs.declared.choice.Request.{Request}
use Rattle.mi_wishes.specs.declared.choice.Request.TheVariants.{Local, Absent, Reinstall}

abbrev pub request_to : Request → world.Request
request_to Local = world.Local
request_to Absent = world.Absent
request_to Reinstall = world.Reinstall

abbrev pub request_from : world.Request → Request
request_from world.Local = Local
request_from world.Absent = Absent
request_from world.Reinstall = Reinstall

abbrev pub told : Option world.Request → Option Request
told request = option_map request_from request
