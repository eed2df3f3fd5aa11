pub mod WhatComparedLinksGave
pub mod EndsMeetInTurn
pub mod OtherEndMoving
pub mod LinkWaysStay
